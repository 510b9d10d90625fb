use Rattle.std.proofs.Common.{sym, subst, ◌∙◌}
use Rattle.turn_lock.specs.Seats.{AreShared}
use Rattle.cluster_locks.proofs.FreshRows.{shares_are}
use Rattle.cluster_locks.proofs.opening.open_lock.Goals as goal

pub returns-in-Ok-clause-shares : goal.returns-in-Ok-clause-shares
returns-in-Ok-clause-shares g c = let r = c.in-Ok.opened in λ passes is. shares_are passes r.1.items (subst (λ n. AreShared n r.1.items) (sym is) (c.in-Ok.ensures.shares)) (sym r.1.ok.0 ∙ (c.in-Ok.ensures.seats.0 ∙ sym is))
