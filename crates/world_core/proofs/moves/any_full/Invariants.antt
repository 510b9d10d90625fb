use Rattle.std.proofs.Common.{◌≡◌, drop}
use Rattle.map_core.specs.Map.{map_of}
use Rattle.world_core.specs.Moves.{move_of, first_refusal}
use Rattle.world_core.proofs.moves.any_full.Given as goal

abbrev pub invariant-loop-group : goal.invariant-loop-group
invariant-loop-group l = first_refusal (move_of (map_of l.map) l.command) l.groups ≡ first_refusal (move_of (map_of l.map) l.command) (drop l.group-index l.groups)
