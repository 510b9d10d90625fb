use Rattle.std.proofs.Common.{◌≡◌, ◌≤◌, [], ◌∷◌, ◌++◌, take, drop, length, vec_len}
use Rattle.std.specs.Prelude.{reverse}
use Rattle.cluster_locks.specs.Places.{InStep}
use Rattle.cluster_locks.proofs.opening.deal.Given as goal

abbrev pub invariant-loop-row : goal.invariant-loop-row
invariant-loop-row g l = record {
  same : vec_len l.seats ≡ vec_len l.rows;
  short : vec_len l.rows ≤ length l.initial.rows.items;
  rows : l.rows.items ≡ take (vec_len l.rows) l.initial.rows.items;
  seats : l.seats.items ≡ take (vec_len l.rows) l.initial.seats.items;
  dealt : InStep (λ row seat longer. longer.items ≡ row.items ++ seat ∷ []) (drop (vec_len l.rows) l.initial.rows.items) (drop (vec_len l.rows) l.initial.seats.items) (reverse l.dealt.items);
}

abbrev pub decreases-loop-row : goal.decreases-loop-row
decreases-loop-row g l = vec_len l.rows
