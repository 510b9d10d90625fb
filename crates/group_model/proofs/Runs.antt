-- Runs of events, and settling as a run.
use Rattle.std.proofs.Common.{ℕ, zero, suc, ◌≡◌, ◌+◌, List, [], ◌∷◌, ◌++◌, replicate, refl, sym, ◌∙◌, ap, arith}
use Rattle.std.specs.Prelude.{None, slice_get}
use Rattle.group_model.specs.Group.{Group, Event, Deliver, deliver, group_step, run, settle, delivered, delivered_now}

pub run-append : (es fs : List Event) (g : Group) → run (es ++ fs) g ≡ run fs (run es g)
run-append [] fs g = refl
run-append (e ∷ es) fs g = run-append es fs (group_step g e)

-- settling is a run
settle_run : (n : ℕ) (g : Group) → settle n g ≡ run (replicate n (Deliver 0)) g
settle_run zero g = refl
settle_run (suc n) g = settle_run n (group_step g (Deliver 0))

pub settle_is_run : (n : ℕ) (es : List Event) (g : Group) → settle n (run es g) ≡ run (es ++ replicate n (Deliver 0)) g
settle_is_run n es g = settle_run n (run es g) ∙ sym (run-append es (replicate n (Deliver 0)) g)

pub settle-add : (a b n : ℕ) (g : Group) → n ≡ a + b → settle n g ≡ settle b (settle a g)
settle-add zero b n g is = (let same : n ≡ b = omega arith in ap (λ v. settle v g) same)
settle-add (suc a) b n g is = (let same : n ≡ suc (a + b) = omega arith in ap (λ v. settle v g) same ∙ settle-add a b (a + b) (group_step g (Deliver 0)) refl)

-- where nothing is on its way, nothing is delivered

step_idle : (g : Group) → slice_get g.wire 0 ≡ None → group_step g (Deliver 0) ≡ g
step_idle g none = ap (λ o. deliver g 0 o) none

pub settle_idle : (n : ℕ) (g : Group) → slice_get g.wire 0 ≡ None → settle n g ≡ g
settle_idle zero g none = refl
settle_idle (suc n) g none = ap (λ v. settle n v) (step_idle g none) ∙ settle_idle n g none

pub delivered_idle : (n : ℕ) (g : Group) → slice_get g.wire 0 ≡ None → delivered n g ≡ 0
delivered_idle zero g none = refl
delivered_idle (suc n) g none =
    let now : delivered_now (slice_get g.wire 0) g ≡ 0 = ap (λ o. delivered_now o g) none in
    let rest : delivered n (group_step g (Deliver 0)) ≡ 0 = ap (λ v. delivered n v) (step_idle g none) ∙ delivered_idle n g none in
    omega arith
