use Rattle.std.proofs.Common.{refl}
use Rattle.world_events.specs.declared.event.Event.TheVariants.{Open}
use Rattle.world_core.proofs.FrontEvents.{quiet, quiet_kept}
use Rattle.world_core.proofs.world.World.open.Goals as goal

pub invariant_of-self : goal.invariant_of-self
invariant_of-self c = quiet_kept c.self.inside.front c.open.new.self c.self.inside.groups.items c.self.inside.runs.items (Open c.args.entity c.args.until) c.open.result c.self.invariant
    (record { parts = refl; creates = refl; stays = λ _. refl }) (record { steps = c.open.ensures.steps; tells = c.open.ensures.tells; refused = c.open.ensures.refused; unchanged = c.open.ensures.unchanged })

pub returns : goal.returns
returns c = rw (← c.self.view_is) (quiet c.self.inside.front c.open.new.self c.self.inside.groups.items c.self.inside.runs.items (Open c.args.entity c.args.until) c.open.result
    (record { parts = refl; creates = refl; stays = λ _. refl }) (record { steps = c.open.ensures.steps; tells = c.open.ensures.tells; refused = c.open.ensures.refused; unchanged = c.open.ensures.unchanged }))
