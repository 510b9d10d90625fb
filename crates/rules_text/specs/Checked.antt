-- Statement: contracts of public calls use it.
-- The rules of a file, and whether they hold of entities.
use Rattle.std.specs.Prelude.{ℕ, ◌≡◌, not, Bool, true, false, List, [], ◌∷◌, Option, None, Some, Result, Ok, Err, string_bytes}
use Rattle.rights_core.specs.Rights.{Rights}
use Rattle.share_core.specs.declared.pools.Pool.{Pool}
use Rattle.verdict_text.specs.Reading.{Reading}
use Rattle.verdict_text.specs.declared.entity.ReadEntity.{ReadEntity}
use Rattle.rules_core.specs.Rules.{IsOutcome}
use Rattle.rules_core.specs.Subject.{Subject}
use Rattle.rules_core.specs.declared.checking.Outcome.{Outcome}
use Rattle.rules_core.specs.declared.checking.Outcome.TheVariants.{Nobody, Kept, Broken}
use Rattle.rules_text.specs.declared.checked.CheckedRule.{CheckedRule}
use Rattle.rules_text.specs.declared.file.RuleLine.{RuleLine}

-- the rights of a text, if it has some
abbrev pub rights_of : Reading → Option Rights
rights_of (Ok rights) = Some rights
rights_of (Err fault) = None

abbrev pub subject_of : ReadEntity → Subject
subject_of entity = record { name = string_bytes entity.name; rights = rights_of entity.osd.read }

-- a rule and its outcome
abbrev pub IsChecked : Option (List Pool) → List Subject → RuleLine → CheckedRule → Type 0
IsChecked pools subjects line one = (one.line.now ≡ line) × IsOutcome pools line.rule subjects one.outcome

-- each rule of a file, in order
abbrev pub AreChecked : Option (List Pool) → List Subject → List RuleLine → List CheckedRule → Type 0
AreChecked pools subjects [] all = all ≡ []
AreChecked pools subjects (line ∷ lines) all =
    (one : CheckedRule) × (others : List CheckedRule) × IsChecked pools subjects line one × AreChecked pools subjects lines others × (all ≡ one ∷ others)

abbrev pub is_kept_by : Outcome → Bool
is_kept_by Nobody = false
is_kept_by Kept = true
is_kept_by (Broken founds) = false

abbrev pub is_broken_by : Outcome → Bool
is_broken_by Nobody = false
is_broken_by Kept = false
is_broken_by (Broken founds) = true

abbrev pub is_kept : CheckedRule → Bool
is_kept one = is_kept_by one.outcome

abbrev pub is_broken : CheckedRule → Bool
is_broken one = is_broken_by one.outcome

abbrev pub fails : CheckedRule → Bool
fails one = not (is_kept one)
