use Rattle.std.proofs.Common.{◌≡◌, ℕ, ◌+◌, map, vec_len}
use Rattle.turn_lock.specs.Seats.{first_of}
use Rattle.cluster_locks.specs.Places.{Beside, IsFreshRow}
use Rattle.cluster_locks.specs.Groups.{group_in}
use Rattle.cluster_locks.specs.Shares.{shares_of}
use Rattle.cluster_locks.proofs.opening.open_groups.Given as goal

abbrev pub invariant-loop-group : goal.invariant-loop-group
invariant-loop-group l = record {
  count : vec_len l.rows ≡ l.count;
  firsts : map first_of l.locks.items ≡ map group_in l.yielded;
  rows : (passes : ℕ) → passes + 1 ≡ l.count → Beside (λ share row. IsFreshRow share l.locks.items row.items) (shares_of passes) l.rows.items;
}
