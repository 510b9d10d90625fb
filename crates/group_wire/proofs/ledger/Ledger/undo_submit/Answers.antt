use Rattle.std.proofs.Common.{◌≡◌, ◌∙◌, ◌-◌, Some, slice_get, false, true, length, take, sym, ap, arith}
use Rattle.group_model.specs.Group.{is_answered}
use Rattle.group_wire.specs.Places.{open_places}
use Rattle.group_wire.proofs.Places.{back_opens, back_answered}
use Rattle.std.proofs.lemmas.Grind.{common_steps}
use Rattle.group_wire.proofs.ledger.Ledger.undo_submit.Goals as goal

pub invariant_of-self : goal.invariant_of-self
invariant_of-self c =
    let requests = c.self.inside.requests in
    let items = c.self.inside.unanswered.items in
    let last : slice_get requests (length requests - 1) ≡ Some c.in-Some.request.now = ap (λ l. slice_get l (length l - 1)) (sym c.as_slice.ensures) ∙ sym c.in-Some.ensures.value in
    let none : is_answered c.self.inside.answers c.in-Some.request.now.id ≡ false = ap (λ n. is_answered c.self.inside.answers n) (sym c.id.ensures) ∙ sym c.has-answered.ensures ∙ c.if-not-answered.true in
    c.truncate.ensures.items ∙ ap (λ n. take n items) (c.saturating_sub-left.ensures ∙ ap (λ l. length l - 1) c.as_slice-then-not-answered.ensures.value)
    ∙ back_opens requests c.self.inside.answers c.in-Some.request.now items last none c.self.invariant ∙ sym (ap (λ l. open_places l c.self.inside.answers) c.pop.ensures)

pub invariant_of-self-else-not-answered : goal.invariant_of-self-else-not-answered
invariant_of-self-else-not-answered c =
    let requests = c.self.inside.requests in
    let last : slice_get requests (length requests - 1) ≡ Some c.in-Some.request.now = ap (λ l. slice_get l (length l - 1)) (sym c.as_slice.ensures) ∙ sym c.in-Some.ensures.value in
    let some : is_answered c.self.inside.answers c.in-Some.request.now.id ≡ true = ap (λ n. is_answered c.self.inside.answers n) (sym c.id.ensures) ∙ sym c.has-answered.ensures ∙ c.if-not-answered.false in
    back_answered requests c.self.inside.answers c.in-Some.request.now c.self.inside.unanswered.items last some c.self.invariant ∙ sym (ap (λ l. open_places l c.self.inside.answers) c.pop.ensures)

pub returns-in-None-clause-requests : goal.returns-in-None-clause-requests
returns-in-None-clause-requests c = grind (arith, common_steps)
