use Rattle.world_core.proofs.Takings.{none_full, one_full}
use Rattle.std.proofs.Common.{arith}
use Rattle.std.proofs.lemmas.Grind.{common_steps}
use Rattle.world_core.proofs.taking.is_one_full.Goals as goal

pub returns-then-is_full_of_requests : goal.returns-then-is_full_of_requests
returns-then-is_full_of_requests c =
    one_full c.args.groups.now c.args.places.now c.loop-place.place-index c.index-groups-place.result c.is_full_of_requests.result c.requires c.loop-place-test.true c.index-groups-place.is c.is_full_of_requests.ensures c.if-is_full_of_requests.true

pub loop-place-preserved : goal.loop-place-preserved
loop-place-preserved c =
    none_full c.args.groups.now c.args.places.now c.loop-place.place-index c.index-groups-place.result c.is_full_of_requests.result c.requires c.loop-place-test.true c.index-groups-place.is c.is_full_of_requests.ensures c.if-is_full_of_requests.false
    c.loop-place.invariant

pub offset_bounds-groups-place : goal.offset_bounds-groups-place
offset_bounds-groups-place c = grind (arith, common_steps)

pub bounds-groups-place : goal.bounds-groups-place
bounds-groups-place c = grind (arith, common_steps)

pub returns : goal.returns
returns c = grind (arith, common_steps)
