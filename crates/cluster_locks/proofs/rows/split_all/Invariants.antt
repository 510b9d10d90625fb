use Rattle.std.proofs.Common.{◌≡◌, map, take, length, vec_len}
use Rattle.std.specs.Prelude.{All}
use Rattle.std.specs.Vec.{vec_capacity}
use Rattle.turn_lock.specs.Seats.{lock_of, seat_lock, seen_by}
use Rattle.cluster_locks.proofs.rows.split_all.Given as goal

abbrev pub invariant-loop-k : goal.invariant-loop-k
invariant-loop-k g l = record {
  count : vec_len l.all ≡ l.k;
  room : vec_capacity l.all ≡ length l.locks;
  same : l.seats ≡ l.initial.seats;
  new_locks : map seat_lock l.all.items ≡ take l.k (map lock_of l.locks);
  new_seen : map seen_by l.all.items ≡ take l.k (map seen_by l.initial.seats);
  none : All (λ s. s.share ≡ 0) l.all.items;
}
