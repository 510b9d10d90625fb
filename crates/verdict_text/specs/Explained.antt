-- Statement: contracts of public calls use it.
-- What `explain` prints of a capability text by a set of rules.
use Rattle.std.specs.Prelude.{ℕ, Bool, List}
use Rattle.verdict_text.specs.CephExplained.{IsCephExplainText}
use Rattle.verdict_text.specs.Explain.{IsExplainText}
use Rattle.verdict_text.specs.declared.format.Format.{Format}
use Rattle.verdict_text.specs.declared.reading.Rules.{Rules}
use Rattle.verdict_text.specs.declared.reading.Rules.TheVariants.{Project, Ceph}

-- what is printed, and whether the command fails
abbrev pub IsExplainedBy : Rules → Format → List ℕ → List ℕ → Bool → Type 0
IsExplainedBy Project format caps text fails = IsExplainText format caps text fails
IsExplainedBy Ceph format caps text fails = IsCephExplainText format caps text fails
