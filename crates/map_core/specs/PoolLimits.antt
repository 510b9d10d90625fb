-- Statement: contracts of public calls use it.
-- How many groups and daemons a pool can have (limits: this project's profile).
use Rattle.std.specs.Prelude.{ℕ, ◌≤◌}
use Rattle.map_core.specs.declared.pool.Pool.{Pool}

-- 1 to 64 groups, sets of 1 to 5 daemons, of which at least 1 and at most all are needed
pub record HasLimits (pg_num size min_size : ℕ) : Type 0 where
  pub some_groups : 1 ≤ pg_num
  pub few_groups : pg_num ≤ 64
  pub some_daemons : 1 ≤ size
  pub few_daemons : size ≤ 5
  pub some_needed : 1 ≤ min_size
  pub few_needed : min_size ≤ size

abbrev pub IsPool : Pool → Type 0
IsPool pool = HasLimits pool.pg_num pool.size pool.min_size
