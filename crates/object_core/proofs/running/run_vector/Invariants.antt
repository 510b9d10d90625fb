use Rattle.std.proofs.Common.{◌≡◌, ◌+◌, true, drop, option_copied}
use Rattle.std.specs.List.{list_all}
use Rattle.object_core.specs.Effect.{run_from}
use Rattle.object_core.specs.Needs.{only_looks}
use Rattle.object_core.specs.ToldEffects.{after}
use Rattle.object_core.specs.declared.outcome.Change.TheVariants.{Kept}
use Rattle.object_core.proofs.Runs.{with_outputs}
use Rattle.object_core.proofs.running.run_vector.Given as goal

-- the run so far, and that of the rest, is that of all; and what only looks has kept the object
abbrev pub invariant-loop-i : goal.invariant-loop-i
invariant-loop-i l = record {
  so_far : with_outputs l.outputs.items (run_from (1 + l.i) (after (option_copied l.fn.object) l.change) (drop l.i l.ops)) ≡ run_from 1 (option_copied l.fn.object) l.ops;
  kept : list_all only_looks l.ops ≡ true → l.change ≡ Kept;
}
