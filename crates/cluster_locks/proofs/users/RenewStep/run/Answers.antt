use Rattle.std.proofs.Common.{List, ℕ, subst}
use Rattle.std.specs.Prelude.{IfOk}
use Rattle.common_types.specs.Refused.{RefusedFirst}
use Rattle.auth_db.specs.declared.fault.AuthFault.TheVariants as auth
use Rattle.auth_db.specs.Users.{HasTicket}
use Rattle.auth_db.specs.Refusals.{known_refusal}
use Rattle.cluster_locks.proofs.users.RenewStep.run.Goals as goal

pub returns-clause-tells : goal.returns-clause-tells
returns-clause-tells c = let t = c.args.table.now in let s = c.args.self.now in
    subst (λ (n : List ℕ). RefusedFirst (known_refusal t.db.users n) auth.OutOfMemory c.shared_ticket.result × IfOk c.shared_ticket.result (λ ticket. HasTicket t.db n s.until ticket)) c.as_str.ensures
    (c.shared_ticket.ensures.refused, c.shared_ticket.ensures.ticket)
