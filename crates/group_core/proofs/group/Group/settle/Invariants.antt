use Rattle.group_model.specs.Budget.{budget}
use Rattle.group_core.proofs.Settling.{SoFar}
use Rattle.group_core.proofs.group.Group.settle.Given as goal

abbrev pub invariant-loop-self : goal.invariant-loop-self
invariant-loop-self l = SoFar l.fn.self l.self l.delivered

abbrev pub decreases-loop-self : goal.decreases-loop-self
decreases-loop-self l = budget l.self
