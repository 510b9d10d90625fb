use Rattle.std.proofs.Common.{◌≡◌, ◌∙◌, ◌<◌, List, ℕ, length, get_or, map, min, sym, arith}
use Rattle.std.proofs.lemmas.List.{length-map}
use Rattle.entry_core.proofs.Fitting.{not_true, not_false}
use Rattle.group_messages.specs.Types.{Sealed}
use Rattle.group_messages.proofs.Alike.{stops_at, goes_past, ends_at, map-get}
use Rattle.group_messages.proofs.beginnings.alike_requests.Goals as goal

pub returns-then-ne-clause-value : goal.returns-then-ne-clause-value
returns-then-ne-clause-value c =
    let s = c.index-part-place in
    let f = c.index-others-place in
    let p = c.loop-place.place in
    let xs : List ℕ = map (λ (r : Sealed). r.id) c.args.part.now in
    let ys : List ℕ = map (λ (r : Sealed). r.id) c.args.others.now in
    let x_long : length xs ≡ length c.args.part.now = length-map c.args.part.now (λ (r : Sealed). r.id) in
    let y_long : length ys ≡ length c.args.others.now = length-map c.args.others.now (λ (r : Sealed). r.id) in
    let in_part : p < length c.args.part.now = omega arith in
    let in_others : p < length c.args.others.now = omega arith in
    let x_is : get_or xs p 0 ≡ c.id.result = map-get c.args.part.now p s.result in_part s.is ∙ sym c.id.ensures in
    let y_is : get_or ys p 0 ≡ c.id-in-loop-place.result = map-get c.args.others.now p f.result in_others f.is ∙ sym c.id-in-loop-place.ensures in
    stops_at xs ys p c.id.result c.id-in-loop-place.result (omega (arith, x_long)) (omega (arith, y_long)) x_is y_is (not_true _ (sym c.ne.ensures ∙ c.if-ne.true)) c.loop-place.invariant

pub loop-place-preserved : goal.loop-place-preserved
loop-place-preserved c =
    let s = c.index-part-place in
    let f = c.index-others-place in
    let p = c.loop-place.place in
    let xs : List ℕ = map (λ (r : Sealed). r.id) c.args.part.now in
    let ys : List ℕ = map (λ (r : Sealed). r.id) c.args.others.now in
    let x_long : length xs ≡ length c.args.part.now = length-map c.args.part.now (λ (r : Sealed). r.id) in
    let y_long : length ys ≡ length c.args.others.now = length-map c.args.others.now (λ (r : Sealed). r.id) in
    let in_part : p < length c.args.part.now = omega arith in
    let in_others : p < length c.args.others.now = omega arith in
    let x_is : get_or xs p 0 ≡ c.id.result = map-get c.args.part.now p s.result in_part s.is ∙ sym c.id.ensures in
    let y_is : get_or ys p 0 ≡ c.id-in-loop-place.result = map-get c.args.others.now p f.result in_others f.is ∙ sym c.id-in-loop-place.ensures in
    goes_past xs ys p c.id.result c.id-in-loop-place.result (omega (arith, x_long)) (omega (arith, y_long)) x_is y_is (not_false _ (sym c.ne.ensures ∙ c.if-ne.false)) c.loop-place.invariant

pub returns-clause-value : goal.returns-clause-value
returns-clause-value c =
    let p = c.loop-place.place in
    let most : p ≡ c.min-most.result = omega arith in
    let is : p ≡ min (length c.args.part.now) (length c.args.others.now) = most ∙ c.min-most.ensures in
    let xs : List ℕ = map (λ (r : Sealed). r.id) c.args.part.now in
    let ys : List ℕ = map (λ (r : Sealed). r.id) c.args.others.now in
    let x_long : length xs ≡ length c.args.part.now = length-map c.args.part.now (λ (r : Sealed). r.id) in
    let y_long : length ys ≡ length c.args.others.now = length-map c.args.others.now (λ (r : Sealed). r.id) in
    sym most ∙ ends_at xs ys p (is ∙ (λ i. min (sym x_long i) (sym y_long i))) c.loop-place.invariant
