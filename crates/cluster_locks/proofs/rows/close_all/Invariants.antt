use Rattle.std.proofs.Common.{◌≡◌, ◌+◌, take, drop, length, vec_len}
use Rattle.std.specs.Prelude.{reverse}
use Rattle.std.specs.Vec.{vec_capacity}
use Rattle.cluster_locks.specs.Places.{ClosedAll}
use Rattle.cluster_locks.proofs.rows.close_all.Given as goal

abbrev pub invariant-loop-lock : goal.invariant-loop-lock
invariant-loop-lock g l = record {
  same : vec_len l.seats ≡ vec_len l.locks;
  count : vec_len l.out + vec_len l.locks ≡ length l.initial.locks.items;
  room : vec_capacity l.out ≡ vec_capacity l.initial.out;
  locks : l.locks.items ≡ take (vec_len l.locks) l.initial.locks.items;
  seats : l.seats.items ≡ take (vec_len l.locks) l.initial.seats.items;
  closed : ClosedAll g.T.Recorded.after g.T.Recorded.fits g.T.Recorded.state (drop (vec_len l.locks) l.initial.locks.items) (drop (vec_len l.locks) l.initial.seats.items) (reverse l.out.items);
}

abbrev pub decreases-loop-lock : goal.decreases-loop-lock
decreases-loop-lock g l = vec_len l.locks
