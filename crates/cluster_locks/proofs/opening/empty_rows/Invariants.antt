use Rattle.std.proofs.Common.{◌≡◌, [], vec_len}
use Rattle.std.specs.Prelude.{All}
use Rattle.cluster_locks.proofs.opening.empty_rows.Given as goal

abbrev pub invariant-loop-made : goal.invariant-loop-made
invariant-loop-made g l = record {
  count : vec_len l.rows ≡ l.made;
  empty : All (λ row. row.items ≡ []) l.rows.items;
}
