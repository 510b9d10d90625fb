use Rattle.std.proofs.Common.{◌≡◌, ◌<◌, ◌∷◌, [], ◌++◌, ap, sym, ◌∙◌, subst, length, false, rules}
use Rattle.group_model.specs.Types.{Request}
use Rattle.group_model.specs.Group.{is_submitted, to_primary}
use Rattle.group_core.proofs.Calls.{next_taken}
use Rattle.group_core.proofs.group.Group.submit.Goals as goal

pub invariant_of-self-2 : goal.invariant_of-self-2
invariant_of-self-2 c =
    let new : is_submitted c.self.inside.state.ledger.requests c.args.request.id ≡ false = ap (λ v. is_submitted c.self.inside.state.ledger.requests v) (sym c.id.ensures) ∙ sym c.has.ensures ∙ c.if-has.false in
    let room : length c.self.inside.state.ledger.requests < 16384 = subst (λ l. length l < 16384) c.requests.ensures c.if-requests-ge-REQUESTS.false in
    let wire = c.in_ok-take_request.ensures.wire_ok ∙ ap (λ l. c.self.inside.state.wire.sent ++ l) (c.in_ok-sent.ensures ∙ ap (λ l. to_primary l (Request c.args.request ∷ [])) c.last_set.ensures) in
    (next_taken c.self.invariant c.args.request c.take_request.new.wire.sent c.take_request.new.ledger.requests c.take_request.new.ledger.answers new room wire c.in_ok-take_request.ensures.requests_ok c.in_ok-take_request.ensures.answers_ok).whole

pub returns-then-requests-ge-REQUESTS : goal.returns-then-requests-ge-REQUESTS
returns-then-requests-ge-REQUESTS c = search rules
