use Rattle.std.proofs.Common.{refl}
use Rattle.world_events.specs.declared.event.Event.TheVariants.{Renew}
use Rattle.world_core.proofs.FrontEvents.{quiet, quiet_kept}
use Rattle.world_core.proofs.world.World.renew.Goals as goal

pub invariant_of-self : goal.invariant_of-self
invariant_of-self c = quiet_kept c.self.inside.front c.renew.new.self c.self.inside.groups.items c.self.inside.runs.items (Renew c.args.session c.args.until) c.renew.result c.self.invariant
    (record { parts = refl; creates = refl; stays = λ _. refl }) (record { steps = c.renew.ensures.steps; tells = c.renew.ensures.tells; refused = c.renew.ensures.refused; unchanged = c.renew.ensures.unchanged })

pub returns : goal.returns
returns c = rw (← c.self.view_is) (quiet c.self.inside.front c.renew.new.self c.self.inside.groups.items c.self.inside.runs.items (Renew c.args.session c.args.until) c.renew.result
    (record { parts = refl; creates = refl; stays = λ _. refl }) (record { steps = c.renew.ensures.steps; tells = c.renew.ensures.tells; refused = c.renew.ensures.refused; unchanged = c.renew.ensures.unchanged }))
