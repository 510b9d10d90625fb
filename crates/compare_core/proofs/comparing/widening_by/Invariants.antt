use Rattle.std.proofs.Common.{take}
use Rattle.compare_core.specs.Widening.{AnswersBy}
use Rattle.compare_core.proofs.comparing.widening_by.Given as goal

-- the answers of the grants so far
abbrev pub invariant-loop-entry : goal.invariant-loop-entry
invariant-loop-entry l = AnswersBy l.registry l.old.grants (take l.entry-index l.entry-items) l.examples.items
