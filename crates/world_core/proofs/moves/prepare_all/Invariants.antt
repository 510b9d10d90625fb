use Rattle.std.proofs.Common.{◌≡◌, ◌≤◌, ◌+◌, ◌++◌, reverse, vec_len, vec_capacity}
use Rattle.map_core.specs.Map.{map_of}
use Rattle.world_core.specs.Moves.{move_of, all_prepared}
use Rattle.world_core.proofs.moves.prepare_all.Given as goal

abbrev pub invariant-loop-group : goal.invariant-loop-group
invariant-loop-group l = record {
  all : all_prepared (move_of (map_of l.map) l.command) l.groups.items ++ reverse l.ready.items ≡ all_prepared (move_of (map_of l.map) l.command) l.initial.groups.items;
  ready_room : vec_len l.groups + vec_len l.ready ≤ vec_capacity l.ready;
  room : vec_len l.groups + vec_len l.ready ≤ vec_capacity l.groups;
}

abbrev pub decreases-loop-group : goal.decreases-loop-group
decreases-loop-group l = vec_len l.groups
