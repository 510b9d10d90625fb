-- Statement: contracts of public calls use it.
-- What is printed of checked rules as a text (this project's profile). Every line ends with byte 10.
use Rattle.std.specs.Prelude.{ℕ, ◌-◌, ◌+◌, Bool, List, [], ◌∷◌, ◌++◌, Option, None, Some, Result, Ok, Err, codes, decimal, flat_map, filter, length, string_bytes, if◌then◌else◌}
use Rattle.std.specs.List.{slice_get}
use Rattle.std.specs.Option.{option_map_or}
use Rattle.compare_text.specs.Request.{addressed_words}
use Rattle.compare_text.specs.declared.widening.AddressedExample.{AddressedExample}
use Rattle.grant_core.specs.Text.{printed_path}
use Rattle.rights_core.specs.Rights.{Rights}
use Rattle.verdict_text.specs.Caret.{shown}
use Rattle.verdict_text.specs.ShownName.{shown_name}
use Rattle.verdict_text.specs.Reading.{Reading, fault_text}
use Rattle.verdict_text.specs.declared.entity.ReadEntity.{ReadEntity}
use Rattle.rules_core.specs.declared.checking.Finding.{Finding}
use Rattle.rules_core.specs.declared.checking.Finding.TheVariants.{Unread, Breach, Crossed}
use Rattle.rules_core.specs.declared.checking.Found.{Found}
use Rattle.rules_core.specs.declared.checking.Outcome.{Outcome}
use Rattle.rules_core.specs.declared.checking.Outcome.TheVariants.{Nobody, Kept, Broken}
use Rattle.rules_core.specs.declared.demand.Demand.{Demand}
use Rattle.rules_core.specs.declared.demand.Demand.TheVariants.{Never, Always}
use Rattle.rules_core.specs.declared.rule.Rule.{Rule}
use Rattle.rules_core.specs.declared.rule.Rule.TheVariants.{Each, Apart}
use Rattle.rules_text.specs.Checked.{is_broken, is_kept}
use Rattle.rules_text.specs.declared.checked.CheckedRule.{CheckedRule}
use Rattle.rules_text.specs.declared.file.RuleLine.{RuleLine}

-- ---- entities that break a rule

-- the name of the entity at an index
abbrev pub name_at : List ReadEntity → ℕ → List ℕ
name_at entities place = option_map_or (λ (entity : ReadEntity). string_bytes entity.name) (slice_get entities place) []

abbrev pub why_unread : Reading → List ℕ
why_unread (Ok rights) = []
why_unread (Err fault) = fault_text fault

abbrev pub fault_of : List ReadEntity → ℕ → List ℕ
fault_of entities place = option_map_or (λ (entity : ReadEntity). why_unread entity.osd.read) (slice_get entities place) []

-- whose grant a request shows
abbrev pub demand_words : Demand → List ℕ
demand_words Never = codes " is allowed by its grant "
demand_words Always = codes " is denied, by the rule's grant "

abbrev pub rule_words : Rule → List ℕ
rule_words (Each demand who region) = demand_words demand
rule_words (Apart ones others) = demand_words Never

-- an entity, a grant, and a request in words of `osdgate verdict`
abbrev pub request_line : List ℕ → List ℕ → AddressedExample → List ℕ
request_line words name found =
    codes "  " ++ (shown_name name ++ (words ++ (printed_path found.example.path ++ (codes ": " ++ (addressed_words found ++ codes "\n")))))

abbrev pub unread_line : List ℕ → List ℕ → List ℕ
unread_line name fault = codes "  " ++ (shown_name name ++ (codes " is not checked: " ++ (fault ++ codes "\n")))

abbrev pub finding_lines : List ReadEntity → Rule → ℕ → Finding → List ℕ
finding_lines entities rule place Unread = unread_line (name_at entities place) (fault_of entities place)
finding_lines entities rule place (Breach found) = request_line (rule_words rule) (name_at entities place) found
finding_lines entities rule place (Crossed other crossing) =
    request_line (rule_words rule) (name_at entities place) crossing.one ++ request_line (rule_words rule) (name_at entities other) crossing.other

abbrev pub found_lines : List ReadEntity → Rule → List Found → List ℕ
found_lines entities rule founds = flat_map (λ (found : Found). finding_lines entities rule found.place found.finding) founds

-- ---- rules

abbrev pub outcome_word : Outcome → List ℕ
outcome_word Nobody = codes "nobody"
outcome_word Kept = codes "holds"
outcome_word (Broken founds) = codes "fails"

-- the outcome, the number of the line, and the rule
abbrev pub rule_line : Outcome → RuleLine → List ℕ
rule_line outcome line = outcome_word outcome ++ (codes " " ++ (decimal line.line ++ (codes " " ++ (shown line.text ++ codes "\n"))))

abbrev pub outcome_lines : List ReadEntity → Bool → RuleLine → Outcome → List ℕ
outcome_lines entities quiet line Nobody = rule_line Nobody line
outcome_lines entities quiet line Kept = if quiet then [] else rule_line Kept line
outcome_lines entities quiet line (Broken founds) = rule_line (Broken founds) line ++ found_lines entities line.rule founds.items

abbrev pub checked_lines : List ReadEntity → Bool → CheckedRule → List ℕ
checked_lines entities quiet one = outcome_lines entities quiet one.line.now one.outcome

-- ---- counts

abbrev pub kept : List CheckedRule → ℕ
kept all = length (filter is_kept all)

abbrev pub broken : List CheckedRule → ℕ
broken all = length (filter is_broken all)

abbrev pub last_line : List CheckedRule → List ℕ
last_line all =
    codes "rules " ++ (decimal (length all) ++ (codes ", hold " ++ (decimal (kept all) ++ (codes ", fail " ++ (decimal (broken all) ++ (codes ", name nobody " ++ (decimal (length all - kept all - broken all) ++ codes "\n")))))))

-- what is printed
abbrev pub report : List ReadEntity → Bool → List CheckedRule → List ℕ
report entities quiet all = flat_map (checked_lines entities quiet) all ++ last_line all
