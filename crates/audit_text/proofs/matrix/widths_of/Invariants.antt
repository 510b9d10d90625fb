use Rattle.std.proofs.Common.{◌≡◌, map, take}
use Rattle.audit_text.specs.Matrix.{column_width}
use Rattle.audit_text.proofs.matrix.widths_of.Given as goal

-- what the first ones give
abbrev pub invariant-loop-pool : goal.invariant-loop-pool
invariant-loop-pool l = l.widths.items ≡ map column_width (take l.pool-index l.pools)
