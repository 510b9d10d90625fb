use Rattle.std.proofs.Common.{◌≡◌, ℕ}
use Rattle.world_script.specs.Script.{kicked}
use Rattle.world_script.proofs.Sweeps.{IsOnEach}
use Rattle.world_script.proofs.groups.kick_groups.Given as goal

abbrev pub invariant-loop-group : goal.invariant-loop-group
invariant-loop-group l = record {
  each : (count : ℕ) × IsOnEach kicked l.group-items l.group-index l.initial.world l.world count;
  history : l.world.front.history ≡ l.initial.world.front.history;
}
