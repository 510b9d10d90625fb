use Rattle.std.proofs.Common.{◌≡◌, take, flat_map}
use Rattle.world_front.specs.Groups.{groups_of}
use Rattle.world_script.proofs.groups.places.Given as goal

abbrev pub invariant-loop-pool : goal.invariant-loop-pool
invariant-loop-pool l = l.groups.items ≡ flat_map groups_of (take l.pool-index l.pool-items)
