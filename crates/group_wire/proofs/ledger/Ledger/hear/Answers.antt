use Rattle.std.proofs.Common.{◌≡◌, ◌∙◌, ◌==◌, not, false, filter, sym, ap, subst}
use Rattle.group_model.specs.Group.{Answer, is_submitted, is_answered}
use Rattle.group_wire.specs.Places.{IsRising, IsPlaceOf, open_places}
use Rattle.group_wire.proofs.Places.{places_rise, answer_closes, answer_of_none}
use Rattle.group_wire.proofs.ledger.Ledger.hear.Goals as goal

pub take_out-requires : goal.take_out-requires
take_out-requires c = subst (IsRising 0) (sym c.self.invariant) (places_rise (λ s. not (is_answered c.self.inside.answers s.id)) 0 c.self.inside.requests)

pub invariant_of-self-in-Some : goal.invariant_of-self-in-Some
invariant_of-self-in-Some c =
    let same : c.answer.inside.id ≡ c.args.answer.id = ap (λ (a : Answer). a.id) c.answer.view_is in
    let place = subst (λ n. IsPlaceOf c.self.inside.requests n c.in-Some.place) same c.in-Some.ensures in
    c.take_out.ensures ∙ ap (λ l. filter (λ k. not (k == c.in-Some.place)) l) c.self.invariant
    ∙ sym (ap (λ l. open_places c.self.inside.requests l) c.in_ok-push.ensures.ok ∙ answer_closes c.self.inside.requests c.self.inside.answers c.args.answer c.in-Some.place place)

pub invariant_of-self-in-None : goal.invariant_of-self-in-None
invariant_of-self-in-None c =
    let same : c.answer.inside.id ≡ c.args.answer.id = ap (λ (a : Answer). a.id) c.answer.view_is in
    let none = subst (λ n. is_submitted c.self.inside.requests n ≡ false) same c.in-None.ensures in
    c.self.invariant ∙ sym (ap (λ l. open_places c.self.inside.requests l) c.in_ok-push.ensures.ok ∙ answer_of_none c.self.inside.requests c.self.inside.answers c.args.answer none)
