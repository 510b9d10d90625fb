-- Statement: contracts of public calls use it.
-- Checked rules as a JUnit document (this project's profile): a test suite, of which each rule is a case.
use Rattle.std.specs.Prelude.{ℕ, ◌-◌, ◌==◌, ◌&&◌, List, [], ◌∷◌, ◌++◌, codes, decimal, flat_map, length, nat_le, if◌then◌else◌}
use Rattle.common_types.specs.Escapes.{escape}
use Rattle.verdict_text.specs.RulesMember.{rules_word}
use Rattle.verdict_text.specs.declared.entity.ReadEntity.{ReadEntity}
use Rattle.verdict_text.specs.declared.reading.Rules.{Rules}
use Rattle.rules_core.specs.declared.checking.Outcome.{Outcome}
use Rattle.rules_core.specs.declared.checking.Outcome.TheVariants.{Nobody, Kept, Broken}
use Rattle.rules_text.specs.Report.{found_lines, kept}
use Rattle.rules_text.specs.declared.checked.CheckedRule.{CheckedRule}
use Rattle.rules_text.specs.declared.file.RuleLine.{RuleLine}

abbrev pub other_glyph : ℕ → List ℕ
other_glyph b = if nat_le 32 b && nat_le b 126 then b ∷ [] else escape b

-- XML writes some bytes by their names; others outside 32 to 126, except the end of a line, are shown by their numbers
abbrev pub glyph : ℕ → List ℕ
glyph b =
    if b == 38 then codes "&amp;"
    else if b == 60 then codes "&lt;"
    else if b == 62 then codes "&gt;"
    else if b == 34 then codes "&quot;"
    else if b == 10 then codes "\n"
    else other_glyph b

abbrev pub escaped : List ℕ → List ℕ
escaped text = flat_map glyph text

abbrev pub failure : List ℕ → List ℕ → List ℕ
failure message body = codes "<failure message=\"" ++ (message ++ (codes "\">" ++ (escaped body ++ codes "</failure>\n")))

abbrev pub outcome_body : List ReadEntity → RuleLine → Outcome → List ℕ
outcome_body entities line Nobody = failure (codes "names nobody") []
outcome_body entities line Kept = []
outcome_body entities line (Broken founds) = failure (codes "fails") (found_lines entities line.rule founds.items)

-- the first line of a rule: its line in the file and its text are the name
abbrev pub case_head : RuleLine → List ℕ
case_head line = codes "<testcase classname=\"rules\" name=\"" ++ (decimal line.line ++ (codes " " ++ (escaped line.text ++ codes "\">\n")))

abbrev pub case_of : List ReadEntity → CheckedRule → List ℕ
case_of entities one = case_head one.line.now ++ (outcome_body entities one.line.now one.outcome ++ codes "</testcase>\n")

-- by which rules capability texts are read
abbrev pub suite : Rules → List ℕ
suite by = codes "<?xml version=\"1.0\" encoding=\"UTF-8\"?>\n<testsuites>\n" ++ (codes "<testsuite name=\"osdgate check --rules " ++ rules_word by)

-- how many rules there are, and how many of them fail
abbrev pub counts : List CheckedRule → List ℕ
counts all = codes "\" tests=\"" ++ (decimal (length all) ++ (codes "\" failures=\"" ++ (decimal (length all - kept all) ++ codes "\">\n")))

abbrev pub head : Rules → List CheckedRule → List ℕ
head by all = suite by ++ counts all

abbrev pub document : Rules → List ReadEntity → List CheckedRule → List ℕ
document by entities all = head by all ++ (flat_map (case_of entities) all ++ codes "</testsuite>\n</testsuites>\n")
