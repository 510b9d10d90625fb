use Rattle.std.proofs.Common.{◌≡◌, take}
use Rattle.map_core.specs.Map.{map_of}
use Rattle.world_core.specs.Taking.{places_for}
use Rattle.world_core.proofs.taking.places.Given as goal

abbrev pub invariant-loop-request : goal.invariant-loop-request
invariant-loop-request l = l.all ≡ places_for (map_of l.map).pools (take l.request-index l.requests)
