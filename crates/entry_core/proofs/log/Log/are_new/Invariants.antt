use Rattle.std.proofs.Common.{take, nat_eq}
use Rattle.std.specs.HashSet.{contains}
use Rattle.entry_core.specs.Log.{ids}
use Rattle.entry_core.proofs.Fitting.{AreSeen}
use Rattle.entry_core.proofs.log.Log.are_new.Given as goal

abbrev pub invariant-loop-sealed : goal.invariant-loop-sealed
invariant-loop-sealed l = AreSeen (ids (take l.kept l.self)) l.part (contains nat_eq l.seen) l.sealed-index
