-- A touch at a target where both lists allow it is a request that both allow; and where no touch is left, no request is.
use Rattle.std.proofs.Common.{◌≡◌, ◌≢◌, ◌<◌, ℕ, length, get_or, List, [], ◌∷◌, ◌++◌, true, false, Option, None, Some, codes, refl, sym, subst, inl, inr}
use Rattle.std.specs.List.{All}
use Rattle.std.specs.Option.{MatchOption}
use Rattle.std.proofs.lemmas.List.Elements.{All-append, All-cons, All-nil}
use Rattle.cap_grants.specs.declared.grant.Access.{Access}
use Rattle.cap_grants.specs.declared.grant.Access.TheVariants as access
use Rattle.grant_core.specs.Flat.{Flat}
use Rattle.request_types.specs.Target.{Target}
use Rattle.request_types.specs.declared.request.Needs.{Needs}
use Rattle.compare_core.specs.declared.comparing.Example.{Example}
use Rattle.share_core.specs.Sharing.{May, Share, ShareIn, IsExampleIn, ShareInOne}
use Rattle.share_core.specs.declared.pools.Pool.{Pool}
use Rattle.share_core.specs.declared.touches.Touch.{Touch}
use Rattle.share_core.specs.declared.touches.Touch.TheVariants.{Read, Write, Call}
use Rattle.share_core.proofs.InPools.{nothing_in}
use Rattle.rules_core.specs.Broken.{IsGivenBy}
use Rattle.rules_core.specs.Breaking.{IsBrokenAmong, IsBrokenBy, IsPlain, IsTouchShown}
use Rattle.rules_core.specs.Demands.{CanAsk, IsAt, IsIn, allow}
use Rattle.rules_core.specs.Touches.{Meets, call_that, class_touches, needs_of, or_a, plain_touches, touches, touches_of}
use Rattle.rules_core.specs.declared.demand.Demand.TheVariants.{Never}
use Rattle.rules_core.proofs.Commons.{common_touch}
use Rattle.rules_core.proofs.SoFar.{Each, each_has}
use Rattle.rules_core.proofs.Touching.{may_allow, plain_needed}

-- what holds of a target and needs holds of an example that has them
pub along : (P : Target → Needs → Type 0) (t u : Target) (n m : Needs) → u ≡ t → m ≡ n → P t n → P u m
along P t u n m p q h = subst (P u) (sym q) (subst (λ v. P v n) (sym p) h)

-- a touch at an object can be asked
pub can_ask : (pools : Option (List Pool)) (touch : Touch) (target : Target) → IsPlain touch → IsAt pools target → target.object ≢ [] → CanAsk pools target (needs_of touch)
can_ask pools touch target plain at filled = record { at = at; needed = plain_needed touch plain; listing = λ empty. absurd (filled empty) }

pub never_shown : (pools : Option (List Pool)) (region entity : Flat) (touch : Touch) (target : Target) (found : Option Example) → IsPlain touch → Meets pools region touch entity touch target
    → target.object ≢ [] → IsTouchShown entity touch target found → IsBrokenBy Never pools region entity found
never_shown pools region entity touch target None plain meets filled shown = absurd shown
never_shown pools region entity touch target (Some example) plain meets filled shown = record {
  asked = along (CanAsk pools) target example.target (needs_of touch) example.needs shown.0 shown.1 (can_ask pools touch target plain meets.0 filled);
  in_region = along (λ t n. allow region t n ≡ true) target example.target (needs_of touch) example.needs shown.0 shown.1 (may_allow region target touch plain meets.1);
  breaks = along (λ t n. allow entity t n ≡ true) target example.target (needs_of touch) example.needs shown.0 shown.1 (may_allow entity target touch plain meets.2);
  given = along (IsGivenBy entity example.path) target example.target (needs_of touch) example.needs shown.0 shown.1 shown.2;
}

-- no target at which both allow the touch
abbrev pub Nowhere : Option (List Pool) → Flat → Flat → Touch → Type 0
Nowhere pools region entity touch = (target : Target) → ¬ Meets pools region touch entity touch target

pub never_broken : (pools : Option (List Pool)) (region entity : Flat) → Each (Nowhere pools region entity) (touches region entity) → IsBrokenBy Never pools region entity None
never_broken pools region entity none target needs breaks =
    let found = common_touch region entity target needs breaks.0.needed breaks.1 breaks.2 in
    each_has (Nowhere pools region entity) (touches region entity) found.touch none found.tried target (breaks.0.at, found.mine, found.theirs)

-- what is found among the touches is what is found
pub broken_by : (pools : Option (List Pool)) (region entity : Flat) (tried : List Touch) (found : Option Example) → tried ≡ touches region entity → IsBrokenAmong pools region entity tried found
    → IsBrokenBy Never pools region entity found
broken_by pools region entity tried None is none = never_broken pools region entity (subst (Each (Nowhere pools region entity)) is none)
broken_by pools region entity tried (Some example) is broken = broken

all_plain : (f : Access) → All IsPlain (class_touches f)
all_plain access.All = All-nil IsPlain
all_plain (access.Flags flags) = All-nil IsPlain
all_plain (access.Class class method) =
    let read : Touch = Call (call_that false class (or_a method)) in
    let write : Touch = Call (call_that true class (or_a method)) in
    let reads : IsPlain read = refl in
    let writes : IsPlain write = refl in
    All-cons IsPlain read (write ∷ []) reads (All-cons IsPlain write [] writes (All-nil IsPlain))

each_plain : (grants : Flat) → All IsPlain (touches_of grants)
each_plain [] = All-nil IsPlain
each_plain (entry ∷ grants) = All-append IsPlain (class_touches entry.1.access) (touches_of grants) (all_plain entry.1.access) (each_plain grants)

plain_ones : All IsPlain plain_touches
plain_ones =
    let read : Touch = Call (call_that false (codes "a") (codes "a")) in
    let write : Touch = Call (call_that true (codes "a") (codes "a")) in
    let reads : IsPlain read = refl in
    let writes : IsPlain write = refl in
    All-cons IsPlain Read (Write ∷ read ∷ write ∷ []) tt
    (All-cons IsPlain Write (read ∷ write ∷ []) tt (All-cons IsPlain read (write ∷ []) reads (All-cons IsPlain write [] writes (All-nil IsPlain))))

-- each touch that is tried is one request and no more
pub tried_plain : (tried : List Touch) (region entity : Flat) → tried ≡ touches region entity → All IsPlain tried
tried_plain tried region entity is =
    subst (All IsPlain) (sym is)
    (All-append IsPlain plain_touches (touches_of region ++ touches_of entity) plain_ones (All-append IsPlain (touches_of region) (touches_of entity) (each_plain region) (each_plain entity)))

pub shown_among : (pools : Option (List Pool)) (region entity : Flat) (tried : List Touch) (touch : Touch) (target : Target) (found : Option Example) → IsPlain touch → Meets pools region touch entity touch target
    → target.object ≢ [] → IsTouchShown entity touch target found → IsBrokenAmong pools region entity tried found
shown_among pools region entity tried touch target None plain meets filled shown = absurd shown
shown_among pools region entity tried touch target (Some example) plain meets filled shown = never_shown pools region entity touch target (Some example) plain meets filled shown

-- what is said of an answer, where it is nothing, and where it is a target

pub met_none : (pools : Option (List Pool)) (ones others : Flat) (one other : Touch) (found : Option Target) → found ≡ None
    → MatchOption found ((target : Target) → ¬ Meets pools ones one others other target) (λ target. Meets pools ones one others other target × (target.object ≢ [])) → (target : Target) → ¬ Meets pools ones one others other target
met_none pools ones others one other None is h = h
met_none pools ones others one other (Some target) is h = absurd (cc)

pub met_some : (pools : Option (List Pool)) (ones others : Flat) (one other : Touch) (found : Option Target) (target : Target) → found ≡ Some target
    → MatchOption found ((target : Target) → ¬ Meets pools ones one others other target) (λ target. Meets pools ones one others other target × (target.object ≢ [])) → Meets pools ones one others other target × (target.object ≢ [])
met_some pools ones others one other None target is h = absurd (cc)
met_some pools ones others one other (Some found) target is h = subst (λ t. Meets pools ones one others other t × (t.object ≢ [])) (at_once is) h
  where
    at_once : {X : Type 0} {a b : X} → Some a ≡ Some b → a ≡ b
    at_once e = cc

pub plain_at : (touches : List Touch) (i : ℕ) (touch : Touch) → i < length touches → touch ≡ get_or touches i touch → All IsPlain touches → IsPlain touch
plain_at touches i touch inside is all = subst IsPlain (sym is) (all i touch inside)

-- ---- targets that are shared

pub shared_anywhere : (ones others : Flat) (one other : Touch) → ¬ Share ones one others other → (target : Target) → ¬ Meets None ones one others other target
shared_anywhere ones others one other none target meets = none (target, meets)

in_pool : (pool : Pool) (ones others : Flat) (one other : Touch) (target : Target) → target.pool ≡ pool.name → target.tags ≡ pool.tags → May ones target one → May others target other → ShareInOne pool ones one others other
in_pool pool ones others one other target named tagged mine theirs = (target, (named, tagged, mine, theirs))

pub meets_in : (pools : List Pool) (ones others : Flat) (one other : Touch) (target : Target) → IsIn pools target → May ones target one → May others target other → ShareIn pools ones one others other
meets_in [] ones others one other target at mine theirs = at
meets_in (pool ∷ pools) ones others one other target (inl here) mine theirs = inl (in_pool pool ones others one other target here.0 here.1 mine theirs)
meets_in (pool ∷ pools) ones others one other target (inr later) mine theirs = inr (meets_in pools ones others one other target later mine theirs)

pub shared_in_none : (pools : List Pool) (ones others : Flat) (one other : Touch) → ¬ ShareIn pools ones one others other → (target : Target) → ¬ Meets (Some pools) ones one others other target
shared_in_none pools ones others one other none target meets = none (meets_in pools ones others one other target meets.0 meets.1 meets.2)

at_once : {X : Type 0} {a b : X} → Some a ≡ Some b → a ≡ b
at_once e = cc

none_is_some : {X : Type 0} {x : X} → None ≡ Some x → ⊥
none_is_some e = cc

pub example_meets : (pools : List Pool) (ones others : Flat) (one other : Touch) (target : Target) → IsExampleIn pools ones one others other (Some target)
    → Meets (Some pools) ones one others other target × (target.object ≢ [])
example_meets [] ones others one other target h = absurd (cc)
example_meets (pool ∷ pools) ones others one other target (inl (found, is, at)) = ((inl (at.0.0, at.0.1), at.0.2, at.0.3), at.1)
example_meets (pool ∷ pools) ones others one other target (inr later) =
    let rest = example_meets pools ones others one other target later.1 in
    ((inr rest.0.0, rest.0.1, rest.0.2), rest.1)

pub met_in : (pools : List Pool) (ones others : Flat) (one other : Touch) (found : Option Target) → IsExampleIn pools ones one others other found
    → MatchOption found ((target : Target) → ¬ Meets (Some pools) ones one others other target) (λ target. Meets (Some pools) ones one others other target × (target.object ≢ []))
met_in pools ones others one other None h = shared_in_none pools ones others one other (nothing_in pools ones others one other h)
met_in pools ones others one other (Some target) h = example_meets pools ones others one other target h
