use Rattle.std.proofs.Common.{◌≡◌, ◌≤◌, map, take, drop, length, vec_len}
use Rattle.turn_lock.specs.Seats.{seat_lock}
use Rattle.cluster_locks.specs.Places.{InStep, TakesIn}
use Rattle.cluster_locks.proofs.rows.join_all.Given as goal

abbrev pub invariant-loop-other : goal.invariant-loop-other
invariant-loop-other g l = record {
  short : vec_len l.others ≤ length l.initial.others.items;
  others : l.others.items ≡ take (vec_len l.others) l.initial.others.items;
  locks : map seat_lock l.seats ≡ map seat_lock l.initial.seats;
  todo : take (vec_len l.others) l.seats ≡ take (vec_len l.others) l.initial.seats;
  done : InStep TakesIn (drop (vec_len l.others) l.initial.seats) (drop (vec_len l.others) l.initial.others.items) (drop (vec_len l.others) l.seats);
}

abbrev pub decreases-loop-other : goal.decreases-loop-other
decreases-loop-other g l = vec_len l.others
