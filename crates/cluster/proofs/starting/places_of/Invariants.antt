use Rattle.std.proofs.Common.{◌≡◌, map, take}
use Rattle.cluster_locks.specs.Groups.{group_in}
use Rattle.cluster.proofs.starting.places_of.Given as goal

abbrev pub invariant-loop-placed : goal.invariant-loop-placed
invariant-loop-placed l = l.places.items ≡ map (λ g. g.group) (map group_in (take l.placed-index l.groups))
