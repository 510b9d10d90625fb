use Rattle.turn_lock.specs.Seats.{IsSameSeat, HasSameShare}
use Rattle.turn_lock.specs.Turns.{StartsWith}
use Rattle.tests_clusters.proofs.locks.add_ones.Given as goal

abbrev pub invariant-loop : goal.invariant-loop
invariant-loop g l = IsSameSeat l.initial.seat l.seat × HasSameShare l.initial.seat l.seat × StartsWith l.seat.seen l.initial.seat.seen
