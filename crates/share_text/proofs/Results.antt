-- What a result says of the value in it.
use Rattle.std.proofs.Common.{◌≡◌, ◌↔◌, List, [], Result, Ok, Err, IfOk, subst, All}
use Rattle.grant_core.specs.Flat.{Flat}
use Rattle.share_core.specs.Sharing.{Answers, IsSharedObject, Share, pairs}
use Rattle.share_core.specs.declared.reaching.Shared.{Shared}
use Rattle.share_core.specs.declared.touches.Touch.{Touch}
use Rattle.share_text.specs.Kinds.{one_touch, other_touch}
use Rattle.share_text.specs.Texts.{AreExamples}
use Rattle.share_text.specs.declared.kind.Kind.{Kind}

-- what holds of two touches holds of those of a kind
pub of_kind : (P : Touch → Touch → Type 0) (kind : Kind) (one other : Touch) → one ≡ one_touch kind → other ≡ other_touch kind → P one other
    → P (one_touch kind) (other_touch kind)
of_kind P kind one other is also h = subst (λ o. P (one_touch kind) o) also (subst (λ o. P o other) is h)

pub examples_so : {V E : Type 0} (items : V → List Shared) (r : Result V E) (kind : Kind) (ones others : Flat)
    → IfOk r (λ x. Answers (one_touch kind) (other_touch kind) (pairs ones others) (items x))
    → IfOk r (λ x. All (λ (example : Shared). IsSharedObject ones (one_touch kind) others (other_touch kind) example.target) (items x))
    → IfOk r (λ x. (items x ≡ []) ↔ (¬ Share ones (one_touch kind) others (other_touch kind)))
    → IfOk r (λ x. AreExamples kind ones others (items x))
examples_so items (Ok x) kind ones others answers shared empty = record { answers = answers; shared = shared; empty = empty }
examples_so items (Err e) kind ones others answers shared empty = tt
