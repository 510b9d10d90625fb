use Rattle.audit_text.proofs.Columns.{FitsSoFar}
use Rattle.audit_text.proofs.matrix.part_end.Given as goal

-- the columns so far fit, or the first one alone does not
abbrev pub invariant-loop-to : goal.invariant-loop-to
invariant-loop-to l = FitsSoFar l.widths l.room l.from l.to l.left
