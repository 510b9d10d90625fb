use Rattle.std.proofs.Common.{◌≡◌}
use Rattle.world_script.specs.Script.{emptied}
use Rattle.world_script.specs.Sweeping.{event_at}
use Rattle.world_script.proofs.Sweeps.{IsOnEach}
use Rattle.world_script.proofs.groups.sweep_groups.Given as goal

abbrev pub invariant-loop-group : goal.invariant-loop-group
invariant-loop-group l = record {
  each : IsOnEach (emptied (event_at l.sweep)) l.group-items l.group-index l.initial.world l.world l.count;
  history : l.world.front.history ≡ l.initial.world.front.history;
}
