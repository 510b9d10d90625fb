-- Statement: contracts of public calls use it.
-- What a line of a file of rules says, or its first fault (this project's profile).
use Rattle.std.specs.Prelude.{ℕ, ◌≡◌, ◌⊎◌, ◌+◌, ◌==◌, min, nat_le, Bool, List, [], ◌∷◌, Option, None, Some, is_some, Result, Ok, Err, codes, length, string_bytes, if◌then◌else◌}
use Rattle.std.specs.List.{list_any}
use Rattle.std.specs.Option.{option_map, option_or}
use Rattle.std.specs.Str.{bytes_eq}
use Rattle.rights_core.specs.Rights.{Rights}
use Rattle.verdict_text.specs.Reading.{IsReading, Reading, fault_byte}
use Rattle.verdict_text.specs.declared.entity.ReadEntity.{ReadEntity}
use Rattle.verdict_text.specs.declared.reading.Rules.{Rules}
use Rattle.verdict_text.specs.declared.reading.TextFault.{TextFault}
use Rattle.rules_core.specs.declared.demand.Demand.{Demand}
use Rattle.rules_core.specs.declared.demand.Demand.TheVariants.{Never, Always}
use Rattle.rules_core.specs.declared.rule.Rule.{Rule}
use Rattle.rules_core.specs.declared.rule.Rule.TheVariants as rule
use Rattle.rules_core.specs.declared.rule.Who.{Who}
use Rattle.rules_words.specs.Naming.{front, group_fault, is_named, is_other, excepted, names_of, rest}
use Rattle.rules_words.specs.Naming as naming
use Rattle.rules_words.specs.Words.{IsCut}
use Rattle.rules_words.specs.declared.naming.Group.{Group}
use Rattle.rules_words.specs.declared.naming.NameFault.{NameFault}
use Rattle.rules_words.specs.declared.naming.NameFault.TheVariants as name
use Rattle.rules_words.specs.declared.naming.NamesFault.{NamesFault}
use Rattle.rules_words.specs.declared.words.BadWord.{BadWord}
use Rattle.rules_words.specs.declared.words.BadWord.TheVariants as bad
use Rattle.rules_words.specs.declared.words.Word.{Word}
use Rattle.rules_text.specs.declared.content.Content.{Content}
use Rattle.rules_text.specs.declared.content.Content.TheVariants.{AGroup, ARule}
use Rattle.rules_text.specs.declared.content.Keyword.{Keyword}
use Rattle.rules_text.specs.declared.content.Keyword.TheVariants as key
use Rattle.rules_text.specs.declared.fault.LineFault.{LineFault}
use Rattle.rules_text.specs.declared.fault.RuleFault.{RuleFault}
use Rattle.rules_text.specs.declared.fault.RuleFault.TheVariants as fault

-- the first word of a line
abbrev pub keyword_of : List ℕ → Option Keyword
keyword_of text =
    if bytes_eq text (codes "group") then Some key.Group
    else if bytes_eq text (codes "never") then Some key.Never
    else if bytes_eq text (codes "always") then Some key.Always
    else if bytes_eq text (codes "apart") then Some key.Apart
    else None

abbrev pub keyword : Word → Option Keyword
keyword word = if is_some word.quote then None else keyword_of word.text.now

abbrev pub at : ℕ → RuleFault → LineFault
at position why = record { at = position; fault = why }

-- ---- whom words name

abbrev pub rule_fault : NameFault → RuleFault
rule_fault name.NoEntities = fault.NoEntities
rule_fault name.DoubledGroup = fault.DoubledGroup
rule_fault name.StarInside = fault.StarInside
rule_fault name.TooManyNames = fault.TooManyNames
rule_fault name.BadExcept = fault.BadExcept
rule_fault name.QuotedName = fault.QuotedName

abbrev pub line_fault : NamesFault → LineFault
line_fault why = at why.at (rule_fault why.fault)

abbrev pub who_fault : List Group → ℕ → List Word → Option LineFault
who_fault groups end words = option_map line_fault (naming.who_fault groups end words)

-- `NAME.. except NAME..`: groups count as their members
abbrev pub IsWho : List Group → List Word → Who → Type 0
IsWho groups words who = (who.names.items ≡ names_of groups (front is_other words)) × (who.except.items ≡ names_of groups (excepted (rest is_other words)))

-- ---- `never WHO 'TEXT'` and `always WHO 'TEXT'`

-- in a text behind its quote: as far as positions go
abbrev pub position_in : Word → Option ℕ → ℕ
position_in word None = word.at
position_in word (Some byte) = min (min (word.at + 1) 18446744073709551615 + byte) 18446744073709551615

abbrev pub text_fault : Word → TextFault → LineFault
text_fault word why = at (position_in word (fault_byte why)) (fault.BadText why)

-- a text that grants nothing is no region
abbrev pub region_by : Word → Reading → Result Rights LineFault
region_by word (Ok region) = if length region.grants == 0 then Err (at word.at fault.NoText) else Ok region
region_by word (Err why) = Err (text_fault word why)

abbrev pub IsRegion : Rules → Word → Result Rights LineFault → Type 0
IsRegion by word region = (read : Reading) × IsReading by word.text.now None read × (region ≡ region_by word read)

abbrev pub IsEachOf : Rules → List Group → Demand → List Word → Word → Result Content LineFault → Type 0
IsEachOf by groups demand words text (Err why) =
    (who_fault groups text.at words ≡ Some why)
    ⊎ ((who_fault groups text.at words ≡ None) × IsRegion by text (Err why))
IsEachOf by groups demand words text (Ok (AGroup group)) = ⊥
IsEachOf by groups demand words text (Ok (ARule (rule.Each same who region))) =
    (who_fault groups text.at words ≡ None) × IsWho groups words who × (same ≡ demand) × IsRegion by text (Ok region)
IsEachOf by groups demand words text (Ok (ARule (rule.Apart ones others))) = ⊥

-- the names, and from the first word in quotes on
abbrev pub IsEach : Rules → List Group → ℕ → Demand → List Word → List Word → Result Content LineFault → Type 0
IsEach by groups end demand words [] result = result ≡ Err (at end fault.NoText)
IsEach by groups end demand words (text ∷ []) result = IsEachOf by groups demand words text result
IsEach by groups end demand words (text ∷ extra ∷ more) result = result ≡ Err (at extra.at fault.ExtraWord)

-- ---- `apart A B`

abbrev pub AreApartOf : List Group → ℕ → List Word → List Word → Result Content LineFault → Type 0
AreApartOf groups end one other (Err why) = option_or (who_fault groups end one) (who_fault groups end other) ≡ Some why
AreApartOf groups end one other (Ok (AGroup group)) = ⊥
AreApartOf groups end one other (Ok (ARule (rule.Each demand who region))) = ⊥
AreApartOf groups end one other (Ok (ARule (rule.Apart ones others))) =
    (option_or (who_fault groups end one) (who_fault groups end other) ≡ None) × IsWho groups one ones × IsWho groups other others

abbrev pub IsApart : List Group → ℕ → List Word → Result Content LineFault → Type 0
IsApart groups end [] result = result ≡ Err (at end fault.NoEntities)
IsApart groups end (one ∷ []) result = result ≡ Err (at end fault.NoEntities)
IsApart groups end (one ∷ other ∷ []) result = AreApartOf groups end (one ∷ []) (other ∷ []) result
IsApart groups end (one ∷ other ∷ extra ∷ more) result = result ≡ Err (at extra.at fault.ExtraWord)

-- ---- `group NAME MEMBER..`

abbrev pub is_entity : List ReadEntity → List ℕ → Bool
is_entity entities name = list_any (λ (entity : ReadEntity). bytes_eq (string_bytes entity.name) name) entities

-- an entity has the name, or there are too many groups
abbrev pub group_refusal : List ReadEntity → List Group → List ℕ → Option RuleFault
group_refusal entities groups name =
    if is_entity entities name then Some fault.GroupIsEntity else if nat_le 1024 (length groups) then Some fault.TooManyGroups else None

-- the fault of a group's words, or why there may be no such group
abbrev pub whole_fault : List ReadEntity → List Group → ℕ → Word → List Word → Option LineFault
whole_fault entities groups end name members =
    option_or (option_map line_fault (group_fault groups end name members)) (option_map (at name.at) (group_refusal entities groups name.text.now))

abbrev pub IsGroupOf : List ReadEntity → List Group → ℕ → Word → List Word → Result Content LineFault → Type 0
IsGroupOf entities groups end name members (Err why) = whole_fault entities groups end name members ≡ Some why
IsGroupOf entities groups end name members (Ok (AGroup group)) =
    (whole_fault entities groups end name members ≡ None) × (group.name ≡ name.text.now) × (group.members.items ≡ names_of groups members)
IsGroupOf entities groups end name members (Ok (ARule rule)) = ⊥

abbrev pub IsGroup : List ReadEntity → List Group → ℕ → List Word → Result Content LineFault → Type 0
IsGroup entities groups end [] result = result ≡ Err (at end fault.NoEntities)
IsGroup entities groups end (name ∷ members) result = IsGroupOf entities groups end name members result

-- ---- a line

-- by the first word
abbrev pub IsBegun : Rules → List ReadEntity → List Group → ℕ → Word → List Word → Option Keyword → Result Content LineFault → Type 0
IsBegun by entities groups end word words None result = result ≡ Err (at word.at fault.UnknownWord)
IsBegun by entities groups end word words (Some key.Group) result = IsGroup entities groups end words result
IsBegun by entities groups end word words (Some key.Never) result = IsEach by groups end Never (front is_named words) (rest is_named words) result
IsBegun by entities groups end word words (Some key.Always) result = IsEach by groups end Always (front is_named words) (rest is_named words) result
IsBegun by entities groups end word words (Some key.Apart) result = IsApart groups end words result

-- the words of a line that ends at a position
abbrev pub IsContent : Rules → List ReadEntity → List Group → ℕ → List Word → Result Content LineFault → Type 0
IsContent by entities groups end [] result = result ≡ Err (at end fault.UnknownWord)
IsContent by entities groups end (word ∷ words) result = IsBegun by entities groups end word words (keyword word) result

abbrev pub word_fault : BadWord → LineFault
word_fault (bad.OpenQuote position) = at position fault.OpenQuote
word_fault (bad.StrayQuote position) = at position fault.StrayQuote
word_fault (bad.BadByte position) = at position fault.BadByte
word_fault bad.TooLong = at 8192 fault.LineTooLong

abbrev pub IsCutLine : Rules → List ReadEntity → List Group → ℕ → Result (List Word) BadWord → Result Content LineFault → Type 0
IsCutLine by entities groups end (Ok words) result = IsContent by entities groups end words result
IsCutLine by entities groups end (Err bad) result = result ≡ Err (word_fault bad)

-- what a line says behind these groups
abbrev pub IsLine : Rules → List ReadEntity → List Group → List ℕ → Result Content LineFault → Type 0
IsLine by entities groups line result =
    (cut : Result (List Word) BadWord) × IsCut line cut × IsCutLine by entities groups (length line) cut result
