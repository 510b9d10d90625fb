use Rattle.std.proofs.Common.{◌≡◌, ◌≤◌, ◌+◌, ◌++◌, map, reverse, vec_len, vec_capacity}
use Rattle.world_core.specs.Moves.{given_up}
use Rattle.world_core.proofs.moves.give_up_all.Given as goal

abbrev pub invariant-loop-prepared : goal.invariant-loop-prepared
invariant-loop-prepared l = record {
  all : l.groups.items ++ map given_up (reverse l.ready.items) ≡ l.initial.groups.items ++ map given_up (reverse l.initial.ready.items);
  room : vec_len l.groups + vec_len l.ready ≤ vec_capacity l.groups;
}

abbrev pub decreases-loop-prepared : goal.decreases-loop-prepared
decreases-loop-prepared l = vec_len l.ready
