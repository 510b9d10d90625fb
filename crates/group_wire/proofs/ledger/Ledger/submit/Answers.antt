use Rattle.std.proofs.Common.{◌≡◌, ◌∙◌, ◌∷◌, ◌++◌, [], false, true, length, sym, ap}
use Rattle.group_model.specs.Group.{is_answered}
use Rattle.group_wire.specs.Places.{open_places}
use Rattle.group_wire.proofs.Places.{submit_opens, submit_answered}
use Rattle.group_wire.proofs.ledger.Ledger.submit.Goals as goal

pub invariant_of-self-then-not-answered : goal.invariant_of-self-then-not-answered
invariant_of-self-then-not-answered c =
    let place = length c.as_slice-place.result.now in
    let none : is_answered c.self.inside.answers c.args.request.id ≡ false = ap (λ n. is_answered c.self.inside.answers n) (sym c.id.ensures) ∙ sym c.has-answered.ensures ∙ c.if-not-answered.true in
    c.push_reserved.ensures.items ∙ ap (λ l. l ++ place ∷ []) (c.reserve.ensures.items ∙ c.self.invariant)
    ∙ sym (ap (λ l. open_places l c.self.inside.answers) c.in_ok-push.ensures.ok ∙ submit_opens c.self.inside.requests c.self.inside.answers c.args.request place (ap length c.as_slice-place.ensures) none)

pub invariant_of-self-else-not-answered : goal.invariant_of-self-else-not-answered
invariant_of-self-else-not-answered c =
    let some : is_answered c.self.inside.answers c.args.request.id ≡ true = ap (λ n. is_answered c.self.inside.answers n) (sym c.id.ensures) ∙ sym c.has-answered.ensures ∙ c.if-not-answered.false in
    c.reserve.ensures.items ∙ c.self.invariant
    ∙ sym (ap (λ l. open_places l c.self.inside.answers) c.in_ok-push.ensures.ok ∙ submit_answered c.self.inside.requests c.self.inside.answers c.args.request some)
