use Rattle.std.proofs.Common.{◌+◌, ap, subst, sym, ◌∙◌, arith}
use Rattle.rules_core.specs.Near.{AreIndexed}
use Rattle.rules_core.proofs.NearSteps.{indexed_other, indexed_ticket}
use Rattle.rules_core.proofs.SoFar.{item_at}
use Rattle.rules_core.proofs.entities.Entities.of.Goals as goal
use Rattle.rules_core.proofs.entities.Entities.of.Goals.{in-None+in_ok-push-in-None, in-Some+in_ok-add-in-Some+in_ok-push-in-Some}

pub loop-place-preserved : goal.loop-place-preserved
loop-place-preserved c = elim c.match-ticket_of.branch [
  | in-None+in_ok-push-in-None w ↦ (
      subst (λ l. AreIndexed c.args.subjects.now (c.loop-place.place + 1) l c.match-ticket_of.places.items c.match-ticket_of.others.items) (sym w.tickets-is)
      (subst (λ l. AreIndexed c.args.subjects.now (c.loop-place.place + 1) c.loop-place.tickets l c.match-ticket_of.others.items) (sym (ap (λ v. v.items) w.places-is))
      (indexed_other c.args.subjects.now c.loop-place.place c.loop-place.tickets c.loop-place.places.items c.loop-place.others.items c.match-ticket_of.others.items (omega arith)
      (ap (λ v. v.items) w.others-is ∙ w.in_ok-push-in-None.ensures.items) c.loop-place.invariant))
      )
  | in-Some+in_ok-add-in-Some+in_ok-push-in-Some w ↦ (
      subst (AreIndexed c.args.subjects.now (c.loop-place.place + 1) c.match-ticket_of.tickets c.match-ticket_of.places.items) (sym (ap (λ v. v.items) w.others-is))
      (indexed_ticket c.args.subjects.now c.loop-place.place c.index-subjects-place.result c.loop-place.tickets c.match-ticket_of.tickets w.in-Some.ticket.now.grants c.loop-place.places.items
      c.match-ticket_of.places.items c.loop-place.others.items (item_at c.args.subjects.now c.loop-place.place c.index-subjects-place.result (omega arith) c.index-subjects-place.is) w.in-Some.ensures
      (w.tickets-is ∙ w.in_ok-add-in-Some.ensures.ok) (ap (λ v. v.items) w.places-is ∙ w.in_ok-push-in-Some.ensures.items) c.loop-place.invariant)
      )
]
