use Rattle.std.proofs.Common.{◌≡◌, ◌∙◌, ◌⊎◌, Some, ap, subst}
use Rattle.auth_db.specs.Refusals.{auth_refusal}
use Rattle.auth_db.specs.declared.fault.AuthFault.TheVariants.{OutOfMemory}
use Rattle.world_front.specs.Event.{Auth}
use Rattle.world_front.specs.ControlPlane.{ControlPlane, front_step, command_of}
use Rattle.world_front.proofs.FrontSteps.{auth_step}
use Rattle.world_front.proofs.Refused.{users_exit}
use Rattle.world_front.proofs.front.ControlPlane.auth.Goals as goal

pub returns-clause-steps : goal.returns-clause-steps
returns-clause-steps c =
    let inside : ControlPlane = record { database = c.self.inside.users; history = c.self.inside.map; sessions = c.self.inside.sessions; submissions = c.self.inside.submissions; lists = c.self.inside.lists } in
    auth_step inside c.args.command c.change_users.new.users c.in_ok-told.ensures.steps ∙ ap (λ f. front_step f (Auth c.args.command)) c.self.view_is

pub returns-in_err-told-clause-refused : goal.returns-in_err-told-clause-refused
returns-in_err-told-clause-refused c =
    users_exit c.from_residual.result (auth_refusal c.args.self.now.database (command_of c.args.command)) c.in_err-told.field-0.0 c.from_residual.ensures.1
    (subst (λ d. (c.in_err-told.field-0.0 ≡ OutOfMemory) ⊎ (auth_refusal d (command_of c.args.command) ≡ Some c.in_err-told.field-0.0)) (ap (λ (f : ControlPlane). f.database) c.self.view_is) c.in_err-told.ensures.refused)
