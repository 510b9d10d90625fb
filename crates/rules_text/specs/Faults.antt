-- Statement: contracts of public calls use it.
-- The faults of a file of rules: what they print, and what was expected (this project's profile).
use Rattle.std.specs.Prelude.{ℕ, List, ◌++◌, codes}
use Rattle.verdict_text.specs.Reading as texts
use Rattle.rules_text.specs.declared.fault.RuleFault.{RuleFault}
use Rattle.rules_text.specs.declared.fault.RuleFault.TheVariants as fault

abbrev pub fault_text : RuleFault → List ℕ
fault_text fault.UnknownWord = codes "U1 UnknownWord"
fault_text fault.NoEntities = codes "U2 NoEntities"
fault_text fault.NoText = codes "U3 NoText"
fault_text fault.OpenQuote = codes "U4 OpenQuote"
fault_text (fault.BadText text) = codes "U5 BadText " ++ texts.fault_text text
fault_text fault.DoubledGroup = codes "U6 DoubledGroup"
fault_text fault.GroupIsEntity = codes "U7 GroupIsEntity"
fault_text fault.StarInside = codes "U8 StarInside"
fault_text fault.TooManyLines = codes "U9 TooManyLines"
fault_text fault.LineTooLong = codes "U10 LineTooLong"
fault_text fault.TooManyRules = codes "U11 TooManyRules"
fault_text fault.TooManyNames = codes "U12 TooManyNames"
fault_text fault.BadByte = codes "U13 BadByte"
fault_text fault.StrayQuote = codes "U14 StrayQuote"
fault_text fault.BadExcept = codes "U15 BadExcept"
fault_text fault.QuotedName = codes "U16 QuotedName"
fault_text fault.ExtraWord = codes "U17 ExtraWord"
fault_text fault.TooManyGroups = codes "U18 TooManyGroups"

abbrev pub expected : RuleFault → List ℕ
expected fault.UnknownWord = codes "group, never, always or apart"
expected fault.NoEntities = codes "the name of an entity or a group"
expected fault.NoText = codes "a capability text in quotes that grants something"
expected fault.OpenQuote = codes "the quote that closes this one"
expected (fault.BadText text) = codes "a capability text"
expected fault.DoubledGroup = codes "a name that no earlier group has"
expected fault.GroupIsEntity = codes "a name that no entity has"
expected fault.StarInside = codes "a name with * as its last byte alone, and a group's without"
expected fault.TooManyLines = codes "at most 65,536 lines"
expected fault.LineTooLong = codes "at most 8,192 bytes in a line"
expected fault.TooManyRules = codes "at most 4,096 rules"
expected fault.TooManyNames = codes "at most 4,096 names"
expected fault.BadByte = codes "a printable ASCII byte or a tab"
expected fault.StrayQuote = codes "a blank behind the word"
expected fault.BadExcept = codes "a name, and one except in a rule"
expected fault.QuotedName = codes "a name without quotes"
expected fault.ExtraWord = codes "the end of the line"
expected fault.TooManyGroups = codes "at most 1,024 groups"
