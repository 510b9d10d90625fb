use Rattle.std.proofs.Common.{arith, ◌∙◌, ◌+◌, ◌++◌, drop, sym, ap, subst}
use Rattle.world_core.specs.Parts.{requests_of}
use Rattle.world_events.specs.Submitting.{AreNew}
use Rattle.world_core.proofs.Parts.{new_here, new_later, requests_next}
use Rattle.std.proofs.lemmas.Grind.{common_steps}
use Rattle.world_core.proofs.world.parts.submissions_of.Goals as goal

pub append-requires : goal.append-requires
append-requires c = subst (AreNew c.loop-place.all) (sym c.requests.ensures)
    (new_here c.loop-place.all c.args.groups.now c.loop-place.place c.index-groups-place.result c.loop-place-test.true c.index-groups-place.is c.loop-place.invariant.fresh)

pub loop-place-preserved : goal.loop-place-preserved
loop-place-preserved c =
    let more = c.in_ok-append.ensures.ok ∙ ap (λ l. c.loop-place.all ++ l) c.requests.ensures in record {
      added = more ∙ requests_next c.loop-place.all c.args.groups.now c.loop-place.place c.index-groups-place.result c.loop-place-test.true c.index-groups-place.is c.loop-place.invariant.added;
      fresh = subst (λ l. AreNew l (requests_of (drop (c.loop-place.place + 1) c.args.groups.now))) (sym more)
          (new_later c.loop-place.all c.args.groups.now c.loop-place.place c.index-groups-place.result c.loop-place-test.true c.index-groups-place.is c.loop-place.invariant.fresh);
    }

pub returns : goal.returns
returns c = grind (arith, common_steps)
