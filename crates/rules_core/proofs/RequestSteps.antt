-- A request that a grant allows at a target by itself: there is one wherever the grant gives the touch.
use Rattle.std.proofs.Common.{◌≡◌, ℕ, List, [], ◌∷◌, Bool, true, false, ◌||◌, Option, None, Some, is_some, slice_get, codes, refl, sym, ap, subst, ◌∙◌, inl, inr, if◌then◌else◌}
use Rattle.std.specs.Option.{option_and_then}
use Rattle.std.proofs.lemmas.Bool.{false≢true}
use Rattle.cap_grants.specs.declared.grant.AllowGrant.{AllowGrant}
use Rattle.cap_grants.specs.declared.grant.Access.{Access}
use Rattle.cap_grants.specs.declared.grant.Access.TheVariants.{All, Flags, Class}
use Rattle.cap_grants.specs.declared.grant.Flags.{Flags as FourFlags}
use Rattle.grant_core.specs.Flat.{Flat}
use Rattle.request_types.specs.Target.{Target}
use Rattle.request_types.specs.declared.request.Needs.{Needs}
use Rattle.verdict_core.specs.Verdict.{covers, matches, names}
use Rattle.compare_core.specs.Widening.{AreNeeded, IsCallBy}
use Rattle.compare_core.specs.declared.comparing.Example.{Example}
use Rattle.compare_core.specs.declared.registry.Registry.TheVariants.{Every}
use Rattle.compare_core.proofs.Bools.{both, true_or_false}
use Rattle.compare_core.proofs.Fronts.{text_same}
use Rattle.compare_core.proofs.Gains.{allowed_among}
use Rattle.share_core.specs.Meeting.{gives}
use Rattle.share_core.specs.Sharing.{May, a_call, writes_so}
use Rattle.share_core.specs.declared.pools.Pool.{Pool}
use Rattle.share_core.specs.declared.touches.Touch.{Touch}
use Rattle.share_core.specs.declared.touches.Touch.TheVariants.{Read, Write, Call}
use Rattle.share_core.proofs.OneGrants.{one_grant, may_by}
use Rattle.rules_core.specs.Broken.{IsAllowed}
use Rattle.rules_core.specs.Breaking.{IsPlain, any_touch}
use Rattle.rules_core.specs.Demands.{CanAsk, allow}
use Rattle.rules_core.specs.Requests.{IsRequestAt, call_by, has_calls, has_plain, request_by, request_with, shown_at}
use Rattle.rules_core.specs.Touches.{call_that, needs_of, or_a, plain_needs}
use Rattle.rules_core.proofs.Touching.{call_needed, may_allow, read_needed, write_needed}

abbrev Entry : Type 0
Entry = List ℕ × AllowGrant

-- A request that an access gives: the touch that it is, which the access gives, and that it does what is asked.
record Gives (access : Access) (writes : Bool) : Type 0 where
  touch : Touch
  plain : IsPlain touch
  given : gives access touch ≡ true
  does : writes ≡ true → writes_so (needs_of touch) ≡ true
  is : request_by access writes ≡ Some (needs_of touch)

some_kind : (writes : Bool) (class method : List ℕ) → IsCallBy Every (call_that writes class method)
some_kind true class method = refl
some_kind false class method = refl

does_call : (writes : Bool) (class method : List ℕ) → writes ≡ true → writes_so (a_call (call_that writes class method)) ≡ true
does_call true class method h = refl
does_call false class method h = absurd (false≢true h)

plainly : (access : Access) (writes : Bool) → has_plain access writes ≡ true → Gives access writes
plainly access true h = record { touch = Write; plain = tt; given = h; does = λ w. refl; is = ap (λ b. if b then Some (plain_needs true) else call_by access true) h }
plainly access false h = record { touch = Read; plain = tt; given = h; does = λ w. absurd (false≢true w); is = ap (λ b. if b then Some (plain_needs false) else call_by access false) h }

by_call : (access : Access) (writes : Bool) (class method : List ℕ) → has_plain access writes ≡ false → covers access (call_that writes class method) ≡ true
    → call_by access writes ≡ Some (a_call (call_that writes class method)) → Gives access writes
by_call access writes class method none covered is = record {
  touch = Call (call_that writes class method);
  plain = some_kind writes class method;
  given = covered;
  does = does_call writes class method;
  is = ap (λ b. if b then Some (plain_needs writes) else call_by access writes) none ∙ is;
}

flags_cover : (flags : FourFlags) (writes : Bool) (class method : List ℕ) → has_calls flags writes ≡ true → covers (Flags flags) (call_that writes class method) ≡ true
flags_cover flags true class method h = h
flags_cover flags false class method h = both flags.class_read true h refl

named_by : (method : Option (List ℕ)) → names method (or_a method) ≡ true
named_by None = refl
named_by (Some method) = text_same method method refl

calls_of : (access : Access) (writes : Bool) → has_plain access writes ≡ false → gives access (any_touch writes) ≡ true → Gives access writes
calls_of All true none h = absurd (false≢true (sym none))
calls_of All false none h = absurd (false≢true (sym none))
calls_of (Flags flags) true none h =
    let has : flags.class_write ≡ true = second flags.write flags.class_write none h in
    by_call (Flags flags) true (codes "a") (codes "a") none (flags_cover flags true (codes "a") (codes "a") has) (ap (λ b. if b then Some (a_call (call_that true (codes "a") (codes "a"))) else None) has)
  where
    second : (a b : Bool) → a ≡ false → (a || b) ≡ true → b ≡ true
    second true b e k = absurd (false≢true (sym e))
    second false b e k = k
calls_of (Flags flags) false none h =
    let has : flags.class_read ≡ true = second flags.read flags.class_read none h in
    by_call (Flags flags) false (codes "a") (codes "a") none (flags_cover flags false (codes "a") (codes "a") has) (ap (λ b. if b then Some (a_call (call_that false (codes "a") (codes "a"))) else None) has)
  where
    second : (a b : Bool) → a ≡ false → (a || b) ≡ true → b ≡ true
    second true b e k = absurd (false≢true (sym e))
    second false b e k = k
calls_of (Class class method) writes none h =
    by_call (Class class method) writes class (or_a method) none (both _ _ (text_same class class refl) (named_by method)) refl

gives_one : (access : Access) (writes : Bool) → gives access (any_touch writes) ≡ true → Gives access writes
gives_one access writes h = elim (true_or_false (has_plain access writes)) [ inl has ↦ plainly access writes has | inr none ↦ calls_of access writes none h ]

alone_allows : (entry : Entry) (target : Target) (touch : Touch) → IsPlain touch → matches entry.1 target ≡ true → gives entry.1.access touch ≡ true → allow (entry ∷ []) target (needs_of touch) ≡ true
alone_allows entry target touch plain matched given = may_allow (entry ∷ []) target touch plain (may_by (entry ∷ []) target touch 0 entry refl matched given)

shown_if : (entry : Entry) (target : Target) (needs : Needs) → allow (entry ∷ []) target needs ≡ true → shown_at entry target needs ≡ Some (record { path = entry.0; target = target; needs = needs })
shown_if entry target needs h = ap (λ b. if b then Some (record { path = entry.0; target = target; needs = needs }) else None) h

-- where grants may touch the target so, a request is found
pub request_is : (grants : Flat) (target : Target) (writes : Bool) → May grants target (any_touch writes) → IsRequestAt grants target writes None → ⊥
request_is grants target writes may none =
    let one = one_grant grants target (any_touch writes) may in
    let g = gives_one one.entry.1.access writes one.given in
    let found : request_with one.entry target writes ≡ Some (record { path = one.entry.0; target = target; needs = needs_of g.touch }) =
    ap (option_and_then (shown_at one.entry target)) g.is ∙ shown_if one.entry target (needs_of g.touch) (alone_allows one.entry target g.touch g.plain one.matched g.given) in
    none_is_some (sym (none one.index one.entry one.at) ∙ found)
  where
    none_is_some : {X : Type 0} {x : X} → None ≡ Some x → ⊥
    none_is_some e = cc

-- ---- what is found

-- what a request that an access gives is
record IsGiven (writes : Bool) (needs : Needs) : Type 0 where
  needed : AreNeeded Every needs
  does : writes ≡ true → writes_so needs ≡ true

at_once : {X : Type 0} {a b : X} → Some a ≡ Some b → a ≡ b
at_once e = cc

plain_given : (writes : Bool) → IsGiven writes (plain_needs writes)
plain_given true = record { needed = write_needed; does = λ w. refl }
plain_given false = record { needed = read_needed; does = λ w. absurd (false≢true w) }

call_given : (writes : Bool) (class method : List ℕ) → IsGiven writes (a_call (call_that writes class method))
call_given writes class method = record { needed = call_needed (call_that writes class method) (some_kind writes class method); does = does_call writes class method }

of_call : (access : Access) (writes : Bool) (needs : Needs) → call_by access writes ≡ Some needs → IsGiven writes needs
of_call All writes needs h = absurd (cc)
of_call (Flags flags) writes needs h = go (has_calls flags writes) h
  where
    go : (b : Bool) → (if b then Some (a_call (call_that writes (codes "a") (codes "a"))) else None) ≡ Some needs → IsGiven writes needs
    go true k = subst (IsGiven writes) (at_once k) (call_given writes (codes "a") (codes "a"))
    go false k = absurd (cc)
of_call (Class class method) writes needs h = subst (IsGiven writes) (at_once h) (call_given writes class (or_a method))

of_request : (access : Access) (writes : Bool) (needs : Needs) → request_by access writes ≡ Some needs → IsGiven writes needs
of_request access writes needs h = go (has_plain access writes) h
  where
    go : (b : Bool) → (if b then Some (plain_needs writes) else call_by access writes) ≡ Some needs → IsGiven writes needs
    go true k = subst (IsGiven writes) (at_once k) (plain_given writes)
    go false k = of_call access writes needs k

-- a request of a grant at a target
pub record IsRequest (entry : Entry) (target : Target) (writes : Bool) (example : Example) : Type 0 where
  pub path : example.path ≡ entry.0
  pub same : example.target ≡ target
  pub needed : AreNeeded Every example.needs
  pub does : writes ≡ true → writes_so example.needs ≡ true
  pub alone : allow (entry ∷ []) target example.needs ≡ true

of_shown : (entry : Entry) (target : Target) (writes : Bool) (needs : Needs) (example : Example) → IsGiven writes needs → shown_at entry target needs ≡ Some example → IsRequest entry target writes example
of_shown entry target writes needs example given h = go (allow (entry ∷ []) target needs) refl h
  where
    go : (b : Bool) → allow (entry ∷ []) target needs ≡ b → (if b then Some (record { path = entry.0; target = target; needs = needs }) else None) ≡ Some example → IsRequest entry target writes example
    go true e k = subst (IsRequest entry target writes) (at_once k) (record { path = refl; same = refl; needed = given.needed; does = given.does; alone = e })
    go false e k = absurd (cc)

of_with : (entry : Entry) (target : Target) (writes : Bool) (example : Example) → request_with entry target writes ≡ Some example → IsRequest entry target writes example
of_with entry target writes example h = go (request_by entry.1.access writes) refl h
  where
    go : (o : Option Needs) → request_by entry.1.access writes ≡ o → option_and_then (shown_at entry target) o ≡ Some example → IsRequest entry target writes example
    go None e k = absurd (cc)
    go (Some needs) e k = of_shown entry target writes needs example (of_request entry.1.access writes needs e) k

-- what is found is allowed, at a target that counts
pub request_allowed : (pools : Option (List Pool)) (grants : Flat) (target : Target) (writes : Bool) (example : Example) → IsRequestAt grants target writes (Some example)
    → ((needs : Needs) → AreNeeded Every needs → CanAsk pools target needs) → (example.target ≡ target) × (writes ≡ true → writes_so example.needs ≡ true) × IsAllowed pools grants example
request_allowed pools grants target writes example (i, entry, at, is) can =
    let r = of_with entry target writes example is in (
      r.same,
      r.does,
      record {
        asked = subst (λ t. CanAsk pools t example.needs) (sym r.same) (can example.needs r.needed);
        allowed = subst (λ t. allow grants t example.needs ≡ true) (sym r.same) (allowed_among grants i entry target example.needs at r.alone);
        given = (i, entry, at, r.path, subst (λ t. allow (entry ∷ []) t example.needs ≡ true) (sym r.same) r.alone);
      },
    )

pub none_if : {X : Type 0} (o : Option X) → is_some o ≡ false → o ≡ None
none_if None h = refl
none_if (Some x) h = absurd (false≢true (sym h))

pub found_of : (grants : Flat) (target : Target) (writes : Bool) (i : ℕ) (entry : Entry) (found : Option Example) → slice_get grants i ≡ Some entry → is_some found ≡ true → found ≡ request_with entry target writes → IsRequestAt grants target writes found
found_of grants target writes i entry None at some is = absurd (false≢true some)
found_of grants target writes i entry (Some example) at some is = (i, entry, at, sym is)
