use Rattle.std.proofs.Common.{◌≡◌, inl, take, refl, sym, subst}
use Rattle.std.proofs.lemmas.List.{take_all}
use Rattle.world_core.proofs.RunsOfEvents.{IsAfter, after_answer, after_none, run_serves, stops, stops_at}
use Rattle.world_core.specs.Calls.{IsFirstRefused}
use Rattle.world_events.specs.declared.fault.WorldFault.TheVariants.{OutOfMemory}
use Rattle.world_core.proofs.running.run.Goals as goal

pub loop-place-init : goal.loop-place-init
loop-place-init c = after_none c.args.table c.args.daemons c.in-Ok.world c.in-Ok.ensures.made

pub loop-place-preserved : goal.loop-place-preserved
loop-place-preserved c =
    after_answer c.args.table c.args.daemons c.args.events.now c.loop-place.place c.index-events-place.result c.index-events-place.result c.in-Ok-copy.copy c.loop-place.world c.apply.new.self c.apply.result
    c.loop-place-test.true c.index-events-place.is c.in-Ok-copy.ensures c.loop-place.invariant (c.apply.ensures.holds c.args.table c.args.daemons) c.apply.ensures.refused c.in-Ok-at_place.ensures.goes

pub returns : goal.returns
returns c =
    let all : take c.loop-place.place c.args.events.now ≡ c.args.events.now = take_all c.loop-place.place c.args.events.now c.loop-place-test.false in
    let h : IsAfter c.args.table c.args.daemons c.args.events.now c.loop-place.world = subst (λ l. IsAfter c.args.table c.args.daemons l c.loop-place.world) all c.loop-place.invariant in
    record { holds = h.holds; accepted = h.accepted; unrefused = h.unrefused; serves = run_serves c.args.table c.args.daemons c.args.events.now c.loop-place.world h; refused = tt }

pub returns-in-Err-at_place-clause-refused : goal.returns-in-Err-at_place-clause-refused
returns-in-Err-at_place-clause-refused c =
    let events = c.args.events.now in
    let stop = c.in-Err-at_place.stop in
    let told = c.in-Err-at_place.ensures.stops in
    subst (λ k. IsFirstRefused c.args.table c.args.daemons events k stop.1) (sym told.0)
    (stops_at c.args.table c.args.daemons events c.loop-place.place c.index-events-place.result c.index-events-place.result c.in-Ok-copy.copy c.loop-place.world c.apply.result stop.1
    c.loop-place-test.true c.index-events-place.is c.in-Ok-copy.ensures c.loop-place.invariant c.apply.ensures.refused told.1)

pub returns-in-Err-copy-clause-refused : goal.returns-in-Err-copy-clause-refused
returns-in-Err-copy-clause-refused c =
    stops c.args.table c.args.daemons c.args.events.now c.loop-place.place c.index-events-place.result c.loop-place.world OutOfMemory c.loop-place-test.true c.loop-place.invariant (inl refl)
