use Rattle.std.proofs.Common.{◌≡◌, ◌≤◌, take, drop, length, vec_len}
use Rattle.std.specs.Prelude.{reverse}
use Rattle.cluster_locks.specs.Places.{InStep}
use Rattle.cluster.proofs.locks.pair.Given as goal

abbrev pub invariant-loop-row : goal.invariant-loop-row
invariant-loop-row l = record {
  same : vec_len l.users ≡ vec_len l.rows;
  short : vec_len l.rows ≤ length l.initial.rows.items;
  rows : l.rows.items ≡ take (vec_len l.rows) l.initial.rows.items;
  users : l.users.items ≡ take (vec_len l.rows) l.initial.users.items;
  all : InStep (λ row seat s. (s.groups.items ≡ row.items) × (s.users ≡ seat)) (drop (vec_len l.rows) l.initial.rows.items) (drop (vec_len l.rows) l.initial.users.items) (reverse l.all.items);
}

abbrev pub decreases-loop-row : goal.decreases-loop-row
decreases-loop-row l = vec_len l.rows
