use Rattle.std.proofs.Common.{◌∙◌, ◌+◌, ◌<◌, refl, ap, arith, length}
use Rattle.world_core.specs.World.{World}
use Rattle.world_script.specs.Script.{kicked, unrefused}
use Rattle.world_script.proofs.Sweeps.{each_on}
use Rattle.world_script.proofs.groups.kick_groups.Goals as goal

pub loop-group-preserved : goal.loop-group-preserved
loop-group-preserved c =
    let ids = c.deref-group-items.result.now in
    let low : c.loop-group.group-index < length ids = omega arith in
    let more = unrefused c.loop-group.world (kicked c.group-item.result c.loop-group.world) in
    record {
      each = (
        c.loop-group.invariant.each.0 + more,
        each_on kicked ids c.loop-group.group-index c.args.world.now c.loop-group.world c.kick_group.new.world c.loop-group.invariant.each.0 more c.group-item.result c.group-item.result
            c.loop-group.invariant.each.1 low c.group-item.is c.in_ok-kick_group.ensures refl,
      );
      history = ap (λ (w : World). w.front.history) c.in_ok-kick_group.ensures ∙ c.loop-group.invariant.history;
    }
