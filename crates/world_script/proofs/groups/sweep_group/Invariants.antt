use Rattle.std.proofs.Common.{◌≡◌, ◌+◌, ℕ}
use Rattle.world_core.specs.World.{group_at}
use Rattle.world_script.specs.Script.{budget_in}
use Rattle.world_script.proofs.Sweeps.{IsSwept}
use Rattle.world_script.proofs.groups.sweep_group.Given as goal

abbrev pub invariant-loop-sweep : goal.invariant-loop-sweep
invariant-loop-sweep l = (more : ℕ) × (l.count ≡ l.initial.count + more) × IsSwept l.sweep l.group l.initial.world l.world more

abbrev pub decreases-loop-sweep : goal.decreases-loop-sweep
decreases-loop-sweep l = budget_in (group_at l.group l.world.groups)
