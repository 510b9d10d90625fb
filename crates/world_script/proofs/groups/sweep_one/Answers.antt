use Rattle.std.proofs.Common.{◌≡◌, ◌∙◌, ◌<◌, true, Some, refl, sym, ap, subst}
use Rattle.world_events.specs.declared.event.Event.{Event}
use Rattle.world_events.specs.declared.fault.WorldFault.{WorldFault as Fault}
use Rattle.world_core.specs.World.{World, group_at, world_step, refusal_of, is_drop}
use Rattle.world_script.specs.Script.{budget_in, one_if_none}
use Rattle.world_script.specs.Sweeping.{event_at}
use Rattle.world_script.proofs.Sweeps.{sweep_lowers, sweep_refused, not_memory}
use Rattle.world_script.proofs.groups.sweep_one.Goals as goal

pub returns-in-Ok-clause-lower : goal.returns-in-Ok-clause-lower
returns-in-Ok-clause-lower c =
    let low = sweep_lowers c.args.world.now c.args.sweep c.args.group.now c.keeps_promises.ensures c.requires.some in
    let steps : c.apply.new.self ≡ world_step c.args.world.now (event_at c.args.sweep c.args.group.now 0) = c.in-Ok.ensures.steps refl ∙ ap (world_step c.args.world.now) c.in_ok-event.ensures in
    subst (λ (w : World). budget_in (group_at c.args.group.now w.groups) < budget_in (group_at c.args.group.now c.args.world.now.groups)) (sym steps) low

pub returns-in_default : goal.returns-in_default
returns-in_default c =
    let e : Event = event_at c.args.sweep c.args.group.now 0 in
    let w : World = c.args.world.now in
    let fault : Fault = c.in-Err.fault in
    let refused : refusal_of w e ≡ Some fault = subst (λ (v : Event). refusal_of w v ≡ Some fault) c.in_ok-event.ensures (not_memory fault (refusal_of w c.in_ok-event.event) c.in_default.not-OutOfMemory c.in-Err.ensures.refused) in
    let drops : is_drop e fault ≡ true = sweep_refused w c.args.sweep c.args.group.now fault c.requires.there c.requires.some refused in
    let steps : c.apply.new.self ≡ world_step w e = c.in-Err.ensures.steps (ap (λ v. is_drop v fault) c.in_ok-event.ensures ∙ drops) ∙ ap (world_step w) c.in_ok-event.ensures in
    let low = sweep_lowers w c.args.sweep c.args.group.now c.keeps_promises.ensures c.requires.some in
    record {
      after = steps;
      reached = ap one_if_none refused;
      lower = subst (λ (v : World). budget_in (group_at c.args.group.now v.groups) < budget_in (group_at c.args.group.now w.groups)) (sym steps) low;
    }
