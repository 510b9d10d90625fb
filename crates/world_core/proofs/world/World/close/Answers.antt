use Rattle.std.proofs.Common.{refl}
use Rattle.world_events.specs.declared.event.Event.TheVariants.{Close}
use Rattle.world_core.proofs.FrontEvents.{quiet, quiet_kept}
use Rattle.world_core.proofs.world.World.close.Goals as goal

pub invariant_of-self : goal.invariant_of-self
invariant_of-self c = quiet_kept c.self.inside.front c.close.new.self c.self.inside.groups.items c.self.inside.runs.items (Close c.args.session) c.close.result c.self.invariant
    (record { parts = refl; creates = refl; stays = λ _. refl }) (record { steps = c.close.ensures.steps; tells = c.close.ensures.tells; refused = c.close.ensures.refused; unchanged = c.close.ensures.unchanged })

pub returns : goal.returns
returns c = rw (← c.self.view_is) (quiet c.self.inside.front c.close.new.self c.self.inside.groups.items c.self.inside.runs.items (Close c.args.session) c.close.result
    (record { parts = refl; creates = refl; stays = λ _. refl }) (record { steps = c.close.ensures.steps; tells = c.close.ensures.tells; refused = c.close.ensures.refused; unchanged = c.close.ensures.unchanged }))
