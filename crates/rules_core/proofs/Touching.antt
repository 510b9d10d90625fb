-- Requests that are one touch and no more.
use Rattle.std.proofs.Common.{◌≡◌, ℕ, List, [], ◌∷◌, true, Bor, Option, None, Some, option_copied, slice_get, refl, sym, subst, ap, ◌∙◌, arith}
use Rattle.std.specs.List.{find}
use Rattle.std.proofs.lemmas.Bool.{false≢true}
use Rattle.std.proofs.lemmas.List.Elements.{All-cons, All-nil}
use Rattle.cap_grants.specs.declared.grant.AllowGrant.{AllowGrant}
use Rattle.grant_core.specs.Flat.{Flat}
use Rattle.request_types.specs.Target.{Target}
use Rattle.request_types.specs.declared.request.ClassCall.{ClassCall}
use Rattle.request_types.specs.declared.request.Needs.{Needs}
use Rattle.verdict_core.specs.Verdict.{grants_allow}
use Rattle.compare_core.specs.Widening.{AreNeeded, IsCallBy}
use Rattle.compare_core.specs.declared.registry.Registry.TheVariants.{Every}
use Rattle.compare_core.proofs.Bools.{any_at}
use Rattle.share_core.specs.Sharing.{May, a_call, a_read, a_write}
use Rattle.share_core.specs.declared.touches.Touch.{Touch}
use Rattle.share_core.specs.declared.touches.Touch.TheVariants.{Read, Write, Call, AnyRead, AnyWrite}
use Rattle.share_core.proofs.InPools.{found_by, none_by}
use Rattle.share_core.proofs.OneGrants.{one_grant, may_by}
use Rattle.rules_core.specs.Broken.{IsGivenBy}
use Rattle.rules_core.specs.Breaking.{IsPlain, IsTouchShown}
use Rattle.rules_core.specs.Demands.{allow}
use Rattle.rules_core.specs.Touches.{needs_of}

abbrev pub Entry : Type 0
Entry = List ℕ × AllowGrant

pub call_needed : (call : ClassCall) → IsCallBy Every call → AreNeeded Every (a_call call)
call_needed call is = record { calls = All-cons (IsCallBy Every) call [] is (All-nil (IsCallBy Every)); few = omega arith; something = refl }

pub read_needed : AreNeeded Every a_read
read_needed = record { calls = All-nil (IsCallBy Every); few = omega arith; something = refl }

pub write_needed : AreNeeded Every a_write
write_needed = record { calls = All-nil (IsCallBy Every); few = omega arith; something = refl }

pub plain_needed : (touch : Touch) → IsPlain touch → AreNeeded Every (needs_of touch)
plain_needed Read is = read_needed
plain_needed Write is = write_needed
plain_needed (Call call) is = call_needed call is
plain_needed AnyRead is = absurd is
plain_needed AnyWrite is = absurd is

-- what may be done is allowed
pub may_allow : (grants : Flat) (target : Target) (touch : Touch) → IsPlain touch → May grants target touch → allow grants target (needs_of touch) ≡ true
may_allow grants target Read is (needs, same, h) = ap (grants_allow grants target) (sym same) ∙ h
may_allow grants target Write is (needs, same, h) = ap (grants_allow grants target) (sym same) ∙ h
may_allow grants target (Call call) is (needs, same, h) = ap (grants_allow grants target) (sym same) ∙ h
may_allow grants target AnyRead is may = absurd is
may_allow grants target AnyWrite is may = absurd is

-- and by one grant
pub given_one : (grants : Flat) (target : Target) (touch : Touch) → IsPlain touch → May grants target touch
    → (i : ℕ) × (entry : Entry) × (slice_get grants i ≡ Some entry) × (allow (entry ∷ []) target (needs_of touch) ≡ true)
given_one grants target touch is may =
    let one = one_grant grants target touch may in
    (one.index, one.entry, one.at, may_allow (one.entry ∷ []) target touch is (may_by (one.entry ∷ []) target touch 0 one.entry refl one.matched one.given))

-- so that grant is found
pub giver_is : (grants : Flat) (target : Target) (touch : Touch) → IsPlain touch → May grants target touch
    → find (λ (entry : Entry). allow (entry ∷ []) target (needs_of touch)) grants ≡ None → ⊥
giver_is grants target touch is may none =
    let one = given_one grants target touch is may in
    false≢true (sym (none_by (λ (entry : Entry). allow (entry ∷ []) target (needs_of touch)) grants none)
    ∙ any_at (λ (entry : Entry). allow (entry ∷ []) target (needs_of touch)) grants one.0 one.1 one.2 one.3)

pub giver_gives : (grants : Flat) (target : Target) (needs : Needs) (entry : Entry) → find (λ (entry : Entry). allow (entry ∷ []) target needs) grants ≡ Some entry → IsGivenBy grants entry.0 target needs
giver_gives grants target needs entry found =
    let one = found_by (λ (entry : Entry). allow (entry ∷ []) target needs) grants entry found in
    (one.0, entry, one.1, refl, one.2)

-- ---- what an answer of the search is

pub no_giver : (grants held : Flat) (target : Target) (touch : Touch) (needs : Needs) (found : Option (Bor Entry)) → held ≡ grants → needs ≡ needs_of touch
    → option_copied found ≡ find (λ (entry : Entry). allow (entry ∷ []) target needs) held → found ≡ None → IsPlain touch → May grants target touch → ⊥
no_giver grants held target touch needs found same is answer none plain may =
    giver_is grants target touch plain may
    (subst (λ n. find (λ (entry : Entry). allow (entry ∷ []) target n) grants ≡ None) is
    (subst (λ l. find (λ (entry : Entry). allow (entry ∷ []) target needs) l ≡ None) same (sym answer ∙ ap option_copied none)))

pub some_giver : (grants held : Flat) (target : Target) (needs : Needs) (found : Option (Bor Entry)) (entry : Bor Entry) → held ≡ grants
    → option_copied found ≡ find (λ (entry : Entry). allow (entry ∷ []) target needs) held → found ≡ Some entry → IsGivenBy grants entry.now.0 target needs
some_giver grants held target needs found entry same answer some =
    giver_gives grants target needs entry.now (subst (λ l. find (λ (e : Entry). allow (e ∷ []) target needs) l ≡ Some entry.now) same (sym answer ∙ ap option_copied some))

pub shown_touch : (grants : Flat) (touch : Touch) (target : Target) (needs : Needs) (path own : List ℕ) → path ≡ own → needs ≡ needs_of touch → IsGivenBy grants own target needs
    → IsTouchShown grants touch target (Some (record { path = path; target = target; needs = needs }))
shown_touch grants touch target needs path own same is given =
    (refl, is, subst (λ n. IsGivenBy grants path target n) is (subst (λ p. IsGivenBy grants p target needs) (sym same) given))
