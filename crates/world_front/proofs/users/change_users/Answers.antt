use Rattle.std.proofs.Common.{◌∙◌, sym, ap, subst}
use Rattle.auth_db.specs.Refusals.{auth_refusal}
use Rattle.auth_db.specs.Refusals as refusals
use Rattle.auth_db.specs.Users.{SetCaps}
use Rattle.world_front.specs.ControlPlane.{command_of}
use Rattle.world_front.proofs.users.change_users.Goals as goal

pub returns-in-SetCaps-clause-refused : goal.returns-in-SetCaps-clause-refused
returns-in-SetCaps-clause-refused c =
    subst (λ command. refusals.RefusedOrMemory (auth_refusal c.args.users.now command) c.set_caps.result)
    (ap (λ n. SetCaps n c.in-SetCaps.caps) c.as_str-in-SetCaps.ensures ∙ ap command_of (sym c.in-SetCaps.is)) c.set_caps.ensures.refused
