use Rattle.std.proofs.Common.{◌≡◌, ◌∙◌, ◌∷◌, ◌++◌, [], ℕ, List, Some, slice_get, get_or, map, filter_map, sym, ap, take_all}
use Rattle.group_model.specs.Types.{Request}
use Rattle.group_model.specs.Group.{to_daemon, last_set}
use Rattle.group_wire.proofs.Places.{found_more, open_found, to_first}
use Rattle.group_wire.proofs.sending.resent.Goals as goal

pub loop-place-preserved : goal.loop-place-preserved
loop-place-preserved c =
    let places : List ℕ = c.unanswered-place-items.result.now in
    let place : ℕ = get_or places c.loop-place.place-index 0 in
    c.in_ok-send_at.ensures ∙ ap (λ l. c.loop-place.sent.items ++ map (to_daemon c.in-Some.first.now) (map Request (filter_map (slice_get l) (place ∷ [])))) c.requests.ensures
    ∙ ap (λ l. l ++ map (to_daemon c.in-Some.first.now) (map Request (filter_map (slice_get c.args.ledger.now.requests) (place ∷ [])))) c.loop-place.invariant
    ∙ found_more (to_daemon c.in-Some.first.now) (λ s. Request s) (slice_get c.args.ledger.now.requests) places c.loop-place.place-index c.loop-place-test.true

pub returns : goal.returns
returns c =
    let requests = c.args.ledger.now.requests in
    let places : List ℕ = c.unanswered-place-items.result.now in
    let first : slice_get (last_set c.args.sets.now) 0 ≡ Some c.in-Some.first.now = ap (λ l. slice_get l 0) (sym (c.as_slice.ensures.value ∙ c.last_set-set.ensures)) ∙ sym c.in-Some.ensures.value in
    c.loop-place.invariant
    ∙ ap (λ l. map (to_daemon c.in-Some.first.now) (map Request (filter_map (slice_get requests) l))) (take_all c.loop-place.place-index places c.loop-place-test.false ∙ c.unanswered-place-items.ensures)
    ∙ ap (λ l. map (to_daemon c.in-Some.first.now) (map Request l)) (open_found requests c.args.ledger.now.answers)
    ∙ to_first (last_set c.args.sets.now) c.in-Some.first.now _ first
