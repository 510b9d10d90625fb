use Rattle.std.proofs.Common.{◌≡◌, ◌∙◌, ◌⊎◌, Some, subst, ap}
use Rattle.auth_db.specs.Refusals.{known_refusal}
use Rattle.auth_db.specs.declared.fault.AuthFault.TheVariants.{OutOfMemory}
use Rattle.world_front.specs.ControlPlane.{ticket_for}
use Rattle.world_front.proofs.Refused.{users_exit, first_or_memory, ticket_is}
use Rattle.world_front.proofs.users.ticket_for.Goals as goal

pub returns-in_err-ticket-clause-refused : goal.returns-in_err-ticket-clause-refused
returns-in_err-ticket-clause-refused c =
    users_exit c.from_residual.result (known_refusal c.args.users.now.users c.args.entity.now) c.in_err-ticket.field-0.0 c.from_residual.ensures.1
    (subst (λ n. (c.in_err-ticket.field-0.0 ≡ OutOfMemory) ⊎ (known_refusal c.args.users.now.users n ≡ Some c.in_err-ticket.field-0.0)) c.as_str.ensures
    (first_or_memory (known_refusal c.args.users.now.users c.as_str.result.now) OutOfMemory c.in_err-ticket.field-0.0 c.in_err-ticket.ensures.refused))

pub returns-in-Ok-clause-ticket : goal.returns-in-Ok-clause-ticket
returns-in-Ok-clause-ticket c =
    c.in-Ok.ensures ∙ ticket_is c.args.users.now c.as_str.result.now c.args.until c.in_ok-ticket.ticket c.in_ok-ticket.ensures.ticket
    ∙ ap (λ n. ticket_for c.args.users.now n c.args.until) c.as_str.ensures
