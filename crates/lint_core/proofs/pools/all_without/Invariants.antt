use Rattle.std.proofs.Common.{◌≡◌, take}
use Rattle.lint_core.specs.Pools.{without_pools}
use Rattle.lint_core.proofs.pools.all_without.Given as goal

-- what is so of the grants so far
abbrev pub invariant-loop-place : goal.invariant-loop-place
invariant-loop-place l = l.without.items ≡ without_pools l.table l.pools (take l.place l.grants)
