use Rattle.std.proofs.Common.{◌≡◌, ◌+◌, ◌*◌, ◌≤◌, ℕ, drop}
use Rattle.map_core.specs.Refusal.{groups_in}
use Rattle.world_front.specs.Groups as spec
use Rattle.world_front.proofs.pool_places.groups_before.Given as goal

abbrev pub invariant-loop-pool : goal.invariant-loop-pool
invariant-loop-pool l = record {
  is : (number : ℕ) → l.before + spec.place_in (drop l.pool-index l.pools) (record { pool = l.name; number = number }) ≡ spec.place_in l.pools (record { pool = l.name; number = number });
  own : groups_in (drop l.pool-index l.pools) l.name ≡ groups_in l.pools l.name;
  few : l.before ≤ 64 * l.pool-index;
}
