use Rattle.std.proofs.Common.{◌≤◌, ◌-◌, length}
use Rattle.audit_text.specs.Matrix.{AreParts}
use Rattle.audit_text.proofs.matrix.part_ends.Given as goal

-- the parts so far
abbrev pub invariant-loop-from : goal.invariant-loop-from
invariant-loop-from l = record { parts : AreParts l.widths l.room 0 l.ends.items l.from; within : l.from ≤ length l.widths }

abbrev pub decreases-loop-from : goal.decreases-loop-from
decreases-loop-from l = length l.widths - l.from
