use Rattle.std.proofs.Common.{refl}
use Rattle.world_events.specs.declared.event.Event.TheVariants.{Auth}
use Rattle.world_core.proofs.FrontEvents.{quiet, quiet_kept}
use Rattle.world_core.proofs.world.World.auth.Goals as goal

pub invariant_of-self : goal.invariant_of-self
invariant_of-self c = quiet_kept c.self.inside.front c.auth.new.self c.self.inside.groups.items c.self.inside.runs.items (Auth c.args.command) c.auth.result c.self.invariant
    (record { parts = refl; creates = refl; stays = λ _. refl }) (record { steps = c.auth.ensures.steps; tells = c.auth.ensures.tells; refused = c.auth.ensures.refused; unchanged = c.auth.ensures.unchanged })

pub returns : goal.returns
returns c = rw (← c.self.view_is) (quiet c.self.inside.front c.auth.new.self c.self.inside.groups.items c.self.inside.runs.items (Auth c.args.command) c.auth.result
    (record { parts = refl; creates = refl; stays = λ _. refl }) (record { steps = c.auth.ensures.steps; tells = c.auth.ensures.tells; refused = c.auth.ensures.refused; unchanged = c.auth.ensures.unchanged }))
