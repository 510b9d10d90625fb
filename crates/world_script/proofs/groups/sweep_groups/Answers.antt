use Rattle.std.proofs.Common.{◌∙◌, ◌+◌, ◌<◌, refl, sym, ap, subst, arith, length}
use Rattle.world_core.specs.World.{World, group_at}
use Rattle.world_script.specs.Script.{emptied, budget_in, unrefused}
use Rattle.world_script.specs.Sweeping.{event_at}
use Rattle.world_script.proofs.Sweeps.{IsOnEach, each_on, swept_history}
use Rattle.world_script.proofs.groups.sweep_groups.Goals as goal

pub loop-group-preserved : goal.loop-group-preserved
loop-group-preserved c =
    let events = emptied (event_at c.args.sweep) in
    let ids = c.deref-group-items.result.now in
    let low : c.loop-group.group-index < length ids = omega arith in
    let more = unrefused c.loop-group.world (events c.group-item.result c.loop-group.world) in
    record {
      each =
          subst (IsOnEach events ids (c.loop-group.group-index + 1) c.args.world.now c.sweep_group.new.world) (sym c.in_ok-sweep_group.ensures.count)
          (each_on events ids c.loop-group.group-index c.args.world.now c.loop-group.world c.sweep_group.new.world c.loop-group.count more c.group-item.result c.group-item.result
          c.loop-group.invariant.each low c.group-item.is c.in_ok-sweep_group.ensures.after refl);
      history =
          ap (λ (w : World). w.front.history) c.in_ok-sweep_group.ensures.after
          ∙ swept_history c.args.sweep c.group-item.result (budget_in (group_at c.group-item.result c.loop-group.world.groups)) c.loop-group.world
          ∙ c.loop-group.invariant.history;
    }
