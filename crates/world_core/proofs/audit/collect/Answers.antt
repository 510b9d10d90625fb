use Rattle.std.proofs.Common.{arith, ◌∙◌}
use Rattle.world_core.proofs.RunPlaces.{told_next}
use Rattle.std.proofs.lemmas.Grind.{common_steps, elements}
use Rattle.world_core.proofs.audit.collect.Goals as goal

pub loop-run-preserved : goal.loop-run-preserved
loop-run-preserved c =
    c.in-Ok.ensures ∙ told_next c.args.groups.now c.args.runs.now c.loop-run.run-index (record { group = 0; from = 0; upto = 0 }) c.index-groups-run.result c.decided.result.now c.loop-run.all
    c.requires c.loop-run-test.true c.index-groups-run.is c.decided.ensures c.loop-run.invariant

pub offset_bounds-groups-run : goal.offset_bounds-groups-run
offset_bounds-groups-run c = grind (arith, common_steps)

pub bounds-groups-run : goal.bounds-groups-run
bounds-groups-run c = grind (arith, common_steps)

pub offset_bounds-decided-run : goal.offset_bounds-decided-run
offset_bounds-decided-run c = grind (arith, elements)

pub slice_bounds-entries-count : goal.slice_bounds-entries-count
slice_bounds-entries-count c = grind (arith, common_steps)

pub slice_bounds-entries-start : goal.slice_bounds-entries-start
slice_bounds-entries-start c = grind (arith, common_steps)

pub slice_bounds-entries-end : goal.slice_bounds-entries-end
slice_bounds-entries-end c = grind (arith, elements)

pub returns : goal.returns
returns c = grind (arith, common_steps)
