use Rattle.std.proofs.Common.{◌≡◌, map}
use Rattle.std.specs.List.{range_with_len}
use Rattle.map_core.specs.Map.{map_of, after}
use Rattle.world_core.specs.World.{begun_group}
use Rattle.world_front.proofs.Places.{numbered}
use Rattle.world_core.proofs.creating.new_groups.Given as goal

abbrev pub invariant-loop-number : goal.invariant-loop-number
invariant-loop-number l = l.made.items ≡ map (begun_group (after (map_of l.map) l.command) l.min_size) (map (numbered l.name) (range_with_len 0 l.number))
