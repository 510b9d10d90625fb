use Rattle.std.proofs.Common.{length, subst, sym, arith}
use Rattle.share_core.specs.Near.{AreNear}
use Rattle.rules_core.specs.Near.{AreIndexed}
use Rattle.rules_core.proofs.NearSteps.{gathered_step, near_of}
use Rattle.rules_core.proofs.entities.Entities.near_ticket.Goals as goal

pub loop-index-preserved : goal.loop-index-preserved
loop-index-preserved c =
    gathered_step c.args.self.now (length c.args.self.now) c.self.inside.tickets c.args.ticket.now.grants c.self.inside.places.items c.self.inside.others.items c.in_ok-near.near.items c.deref-index-items.result.now
    c.loop-index.places.items c.push.new.self.items c.loop-index.index-index c.index.result.now c.deref-index-items.ensures.value c.in_ok-near.ensures
    (subst (λ s. AreIndexed s (length s) c.self.inside.tickets c.self.inside.places.items c.self.inside.others.items) c.self.view_is c.self.invariant) (omega arith) c.index.ensures
    c.in_ok-push.ensures.items c.loop-index.invariant

pub returns : goal.returns
returns c = λ grants same.
    near_of c.args.self.now grants c.args.ticket.now.grants c.self.inside.tickets c.self.inside.places.items c.self.inside.others.items c.deref-index-items.result.now c.loop-index.places.items
    c.put_in_order.new.places.items c.loop-index.index-index (omega arith) same
    (subst (λ s. AreIndexed s (length s) c.self.inside.tickets c.self.inside.places.items c.self.inside.others.items) c.self.view_is c.self.invariant)
    (subst (AreNear c.args.ticket.now.grants c.self.inside.tickets 0) (sym c.deref-index-items.ensures.value) c.in_ok-near.ensures) c.loop-index.invariant c.put_in_order.ensures.rising c.put_in_order.ensures.kept c.put_in_order.ensures.among
