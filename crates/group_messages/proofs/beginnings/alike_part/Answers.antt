use Rattle.std.proofs.Common.{◌≡◌, ◌∙◌, ◌<◌, List, ℕ, length, get_or, map, min, sym, ap, arith}
use Rattle.std.proofs.lemmas.List.{length-map}
use Rattle.entry_core.specs.Log.{ids}
use Rattle.store_core.specs.declared.entry.Entry.{Entry}
use Rattle.entry_core.proofs.Fitting.{not_true, not_false}
use Rattle.group_messages.specs.Types.{Sealed}
use Rattle.group_messages.proofs.Alike.{stops_at, goes_past, ends_at, ids-get, map-get, ids-length}
use Rattle.group_messages.proofs.beginnings.alike_part.Goals as goal

pub returns-then-ne-clause-value : goal.returns-then-ne-clause-value
returns-then-ne-clause-value c =
    let s = c.index-part-place in
    let f = c.index-entries-place in
    let p = c.loop-place.place in
    let numbers : List ℕ = map (λ (r : Sealed). r.id) c.args.part.now in
    let long : length numbers ≡ length c.args.part.now = length-map c.args.part.now (λ (r : Sealed). r.id) in
    let in_part : p < length c.args.part.now = omega arith in
    let in_fs : p < length c.args.entries.now = omega arith in
    let x_is : get_or numbers p 0 ≡ c.id.result = map-get c.args.part.now p s.result in_part s.is ∙ sym c.id.ensures in
    let y_is : get_or (ids c.args.entries.now) p 0 ≡ c.id-in-loop-place.result = ids-get c.args.entries.now p f.result in_fs f.is ∙ sym (c.id-in-loop-place.ensures ∙ ap (λ (x : Entry). x.sealed.id) (sym f.is)) in
    stops_at numbers (ids c.args.entries.now) p c.id.result c.id-in-loop-place.result
    (omega (arith, long)) (omega (arith, ids-length c.args.entries.now)) x_is y_is (not_true _ (sym c.ne.ensures ∙ c.if-ne.true)) c.loop-place.invariant

pub loop-place-preserved : goal.loop-place-preserved
loop-place-preserved c =
    let s = c.index-part-place in
    let f = c.index-entries-place in
    let p = c.loop-place.place in
    let numbers : List ℕ = map (λ (r : Sealed). r.id) c.args.part.now in
    let long : length numbers ≡ length c.args.part.now = length-map c.args.part.now (λ (r : Sealed). r.id) in
    let in_part : p < length c.args.part.now = omega arith in
    let in_fs : p < length c.args.entries.now = omega arith in
    let x_is : get_or numbers p 0 ≡ c.id.result = map-get c.args.part.now p s.result in_part s.is ∙ sym c.id.ensures in
    let y_is : get_or (ids c.args.entries.now) p 0 ≡ c.id-in-loop-place.result = ids-get c.args.entries.now p f.result in_fs f.is ∙ sym (c.id-in-loop-place.ensures ∙ ap (λ (x : Entry). x.sealed.id) (sym f.is)) in
    goes_past numbers (ids c.args.entries.now) p c.id.result c.id-in-loop-place.result
    (omega (arith, long)) (omega (arith, ids-length c.args.entries.now)) x_is y_is (not_false _ (sym c.ne.ensures ∙ c.if-ne.false)) c.loop-place.invariant

pub returns-clause-value : goal.returns-clause-value
returns-clause-value c =
    let p = c.loop-place.place in
    let most : p ≡ c.min-most.result = omega arith in
    let is : p ≡ min (length c.args.part.now) (length c.args.entries.now) = most ∙ c.min-most.ensures in
    let numbers : List ℕ = map (λ (r : Sealed). r.id) c.args.part.now in
    let long : length numbers ≡ length c.args.part.now = length-map c.args.part.now (λ (r : Sealed). r.id) in
    sym most ∙ ends_at numbers (ids c.args.entries.now) p (is ∙ (λ i. min (sym long i) (sym (ids-length c.args.entries.now) i))) c.loop-place.invariant
