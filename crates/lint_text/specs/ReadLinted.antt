-- Statement: contracts of public calls use it.
-- What is printed of texts that were read, by the rules by which each was.
use Rattle.std.specs.Prelude.{ℕ, List, Bool, Option, string_bytes}
use Rattle.lint_text.specs.CephLinted.{IsCephLintAnswer, IsCephNameTold}
use Rattle.lint_text.specs.Linted.{IsLintAnswer, IsNameTold}
use Rattle.share_core.specs.declared.pools.Pool.{Pool}
use Rattle.verdict_text.specs.EachTold.{AreAllTold}
use Rattle.verdict_text.specs.declared.entity.ReadEntity.{ReadEntity}
use Rattle.verdict_text.specs.declared.reading.Rules.{Rules}
use Rattle.verdict_text.specs.declared.reading.Rules.TheVariants.{Project, Ceph}

-- what is printed of a text by a set of rules, and whether the command fails
abbrev pub IsLintAnswerBy : Rules → Option (List Pool) → Bool → List ℕ → List ℕ → Bool → Type 0
IsLintAnswerBy Project pools check caps text fails = IsLintAnswer pools check caps text fails
IsLintAnswerBy Ceph pools check caps text fails = IsCephLintAnswer pools check caps text fails

-- what is printed of an entity of a name and a text by a set of rules
abbrev pub IsNameToldBy : Rules → Option (List Pool) → Bool → List ℕ → List ℕ → List ℕ → Bool → Type 0
IsNameToldBy Project pools check name caps text fails = IsNameTold pools check name caps text fails
IsNameToldBy Ceph pools check name caps text fails = IsCephNameTold pools check name caps text fails

abbrev pub IsReadEntityTold : Option (List Pool) → Bool → ReadEntity → List ℕ → Bool → Type 0
IsReadEntityTold pools check entity text fails = IsNameToldBy entity.osd.rules pools check (string_bytes entity.name) entity.osd.text text fails

-- what is printed of some entities that were read, in order, and whether the command fails, which it does where it fails for one
abbrev pub AreReadLinted : Option (List Pool) → Bool → List ReadEntity → List ℕ → Bool → Type 0
AreReadLinted pools check entities text fails = AreAllTold (IsReadEntityTold pools check) entities text fails
