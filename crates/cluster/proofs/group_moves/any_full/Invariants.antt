use Rattle.cluster.specs.Passes.{AreMonitorOf}
use Rattle.cluster.specs.GroupMoves.{HaveLooked, NoneFull}
use Rattle.cluster.proofs.group_moves.any_full.Given as goal

abbrev pub invariant-loop-k : goal.invariant-loop-k
invariant-loop-k g l = record {
  own : AreMonitorOf l.cluster l.seats;
  looked : HaveLooked l.initial.seats l.seats;
  none : NoneFull l.cluster l.map l.command l.places l.k l.initial.seats l.seats;
}
