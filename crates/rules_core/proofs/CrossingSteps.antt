-- What pairs of requests say of two lists of grants, and of the rights of two entities.
use Rattle.std.proofs.Common.{◌≡◌, ◌≢◌, List, [], ◌∷◌, Bool, true, false, ◌||◌, Option, None, Some, is_some, slice_get, refl, sym, ap, subst, ◌∙◌, ◌⊎◌, inl, inr}
use Rattle.std.specs.Option.{MatchOption}
use Rattle.std.proofs.lemmas.Bool.{false≢true}
use Rattle.grant_core.specs.Flat.{Flat}
use Rattle.network_core.specs.Address.{IsAddress}
use Rattle.network_core.specs.declared.address.Address.{Address}
use Rattle.request_types.specs.Target.{Target}
use Rattle.request_types.specs.declared.request.ClassCall.{ClassCall}
use Rattle.request_types.specs.declared.request.Needs.{Needs}
use Rattle.rights_core.specs.Rights.{NetworkGrant, Rights, grants_at, ticket_at}
use Rattle.rights_core.specs.Samples.{DecideFor}
use Rattle.verdict_core.specs.Ticket.{Ticket}
use Rattle.compare_core.specs.Widening.{AreNeeded, IsCallBy}
use Rattle.compare_core.specs.declared.comparing.Example.{Example}
use Rattle.compare_core.specs.declared.registry.Registry.TheVariants.{Every}
use Rattle.compare_core.proofs.Asked.{all_slice_get}
use Rattle.compare_core.proofs.Bools.{any_at, either_first, fails, true_or_false}
use Rattle.share_core.specs.Sharing.{reads_so, writes_so}
use Rattle.share_core.specs.declared.pools.Pool.{Pool}
use Rattle.share_core.specs.declared.touches.Touch.{Touch}
use Rattle.share_core.specs.declared.touches.Touch.TheVariants.{AnyRead, AnyWrite}
use Rattle.rules_core.specs.Broken.{IsAllowed, IsCrossing}
use Rattle.rules_core.specs.Breaking.{IsBrokenBy, IsCrossedBy, IsCrossedWith, IsPair, IsPairBy, any_touch, crossing_of}
use Rattle.rules_core.specs.Demands.{AreApart, CanAsk, IsAt, allow}
use Rattle.rules_core.specs.Requests.{IsRequestAt}
use Rattle.rules_core.specs.Touches.{Meets}
use Rattle.rules_core.specs.declared.apart.Crossing.{Crossing}
use Rattle.rules_core.specs.declared.apart.Pair.{Pair}
use Rattle.rules_core.specs.declared.demand.Demand.TheVariants.{Never}
use Rattle.rules_core.proofs.Addressing.{sample_for}
use Rattle.rules_core.proofs.Commons.{first_call}
use Rattle.rules_core.proofs.NeverSteps.{met_some}
use Rattle.rules_core.proofs.RequestSteps.{request_allowed, request_is}
use Rattle.rules_core.proofs.SoFar.{Each, each_has}

-- ---- one pair

can_there : (pools : Option (List Pool)) (target : Target) → IsAt pools target → target.object ≢ [] → (needs : Needs) → AreNeeded Every needs → CanAsk pools target needs
can_there pools target at filled needs needed = record { at = at; needed = needed; listing = λ empty. absurd (filled empty) }

pub pair_shown : (pools : Option (List Pool)) (ones others : Flat) (one_writes other_writes : Bool) (target : Target) (one other : Example) → Meets pools ones (any_touch one_writes) others (any_touch other_writes) target
    → target.object ≢ [] → IsRequestAt ones target one_writes (Some one) → IsRequestAt others target other_writes (Some other) → IsPairBy pools ones one_writes others other_writes (Some (record { one = one; other = other }))
pair_shown pools ones others one_writes other_writes target one other meets filled mine theirs =
    let first = request_allowed pools ones target one_writes one mine (can_there pools target meets.0 filled) in
    let second = request_allowed pools others target other_writes other theirs (can_there pools target meets.0 filled) in
    (second.0 ∙ sym first.0, first.1, second.1, first.2, second.2)

pub no_first : (pools : Option (List Pool)) (ones others : Flat) (one_writes other_writes : Bool) (target : Target) → Meets pools ones (any_touch one_writes) others (any_touch other_writes) target
    → IsRequestAt ones target one_writes None → IsPairBy pools ones one_writes others other_writes None
no_first pools ones others one_writes other_writes target meets none = absurd (request_is ones target one_writes meets.1 none)

pub no_second : (pools : Option (List Pool)) (ones others : Flat) (one_writes other_writes : Bool) (target : Target) → Meets pools ones (any_touch one_writes) others (any_touch other_writes) target
    → IsRequestAt others target other_writes None → IsPairBy pools ones one_writes others other_writes None
no_second pools ones others one_writes other_writes target meets none = absurd (request_is others target other_writes meets.2 none)

-- ---- whether two lists cross

or_second : (a b : Bool) → b ≡ true → (a || b) ≡ true
or_second true b h = refl
or_second false b h = h

either_kind : (a b : Bool) → (a || b) ≡ true → (a ≡ true) ⊎ (b ≡ true)
either_kind true b h = inl refl
either_kind false b h = inr h

-- each request reads or writes
reads_or_writes : (needs : Needs) → AreNeeded Every needs → (reads_so needs ≡ true) ⊎ (writes_so needs ≡ true)
reads_or_writes needs needed = elim (true_or_false needs.reads) [
  | inl reads ↦ inl (either_first needs.reads _ reads)
  | inr no_reads ↦ (
      elim (true_or_false needs.writes) [
        | inl writes ↦ inr (either_first needs.writes _ writes)
        | inr no_writes ↦ by_call (first_call needs needs.calls refl no_reads no_writes needed.something)
      ]
      )
]
  where
    by_call : ((call : ClassCall) × (slice_get needs.calls 0 ≡ Some call)) → (reads_so needs ≡ true) ⊎ (writes_so needs ≡ true)
    by_call (call, at) = elim (either_kind call.class_reads call.class_writes (all_slice_get (IsCallBy Every) needs.calls 0 call needed.calls at)) [
      | inl reads ↦ inl (or_second needs.reads _ (any_at (λ (c : ClassCall). c.class_reads) needs.calls 0 call at reads))
      | inr writes ↦ inr (or_second needs.writes _ (any_at (λ (c : ClassCall). c.class_writes) needs.calls 0 call at writes))
    ]

pub never_crossed : (pools : Option (List Pool)) (ones others : Flat) → IsPairBy pools ones true others true None → IsPairBy pools ones true others false None → IsPairBy pools ones false others true None
    → IsCrossedBy pools ones others None
never_crossed pools ones others both writes reads target write touch = (
  λ c. elim (reads_or_writes touch c.touched.needed) [
    | inl so ↦ writes target (c.asked.at, (write, c.writes, c.allowed), (touch, so, c.also))
    | inr so ↦ both target (c.asked.at, (write, c.writes, c.allowed), (touch, so, c.also))
  ],
  λ c. elim (reads_or_writes touch c.touched.needed) [
    | inl so ↦ reads target (c.asked.at, (touch, so, c.also), (write, c.writes, c.allowed))
    | inr so ↦ both target (c.asked.at, (touch, so, c.also), (write, c.writes, c.allowed))
  ],
)

-- who reads nothing in common, and writes nothing, allows no common request
pub never_met : (pools : Option (List Pool)) (region entity : Flat) → ((target : Target) → ¬ Meets pools region AnyRead entity AnyRead target)
    → ((target : Target) → ¬ Meets pools region AnyWrite entity AnyWrite target) → IsBrokenBy Never pools region entity None
never_met pools region entity reads writes target needs breaks = elim (reads_or_writes needs breaks.0.needed) [
  | inl so ↦ reads target (breaks.0.at, (needs, so, breaks.1), (needs, so, breaks.2))
  | inr so ↦ writes target (breaks.0.at, (needs, so, breaks.1), (needs, so, breaks.2))
]

pub first_writes : (pools : Option (List Pool)) (ones others : Flat) (other_writes : Bool) (pair : Pair) → IsPairBy pools ones true others other_writes (Some pair) → IsCrossedBy pools ones others (Some pair)
first_writes pools ones others other_writes pair h = record { same = h.0; writes = either_first (writes_so pair.one.needs) _ (h.1 refl); mine = h.3; theirs = h.4 }

pub second_writes : (pools : Option (List Pool)) (ones others : Flat) (one_writes : Bool) (pair : Pair) → IsPairBy pools ones one_writes others true (Some pair) → IsCrossedBy pools ones others (Some pair)
second_writes pools ones others one_writes pair h = record { same = h.0; writes = or_second (writes_so pair.one.needs) _ (h.2 refl); mine = h.3; theirs = h.4 }

-- ---- from all addresses

pub crossed_along : (pools : Option (List Pool)) (ones others ours yours : Flat) (found : Option Pair) → ones ≡ ours → others ≡ yours → IsCrossedBy pools ones others found → IsCrossedBy pools ours yours found
crossed_along pools ones others ours yours found p q h =
    subst (λ l. IsCrossedBy pools l yours found) p (subst (λ l. IsCrossedBy pools ones l found) q h)

-- no requests cross at two addresses
abbrev pub ApartAt : Option (List Pool) → List NetworkGrant → List NetworkGrant → Address → Address → Type 0
ApartAt pools one other a b = IsCrossedBy pools (grants_at one a) (grants_at other b) None

pub apart : (pools : Option (List Pool)) (one other : List NetworkGrant) → ((a b : Address) → IsAddress a → IsAddress b → ApartAt pools one other a b) → AreApart pools one other
apart pools one other none = (
  λ a b target write touch is_a is_b can can_touch writes allowed. fails (allow (grants_at other b) target touch)
      (λ given. (none a b is_a is_b target write touch).0 (record { asked = can; touched = can_touch; writes = writes; allowed = allowed; also = given })),
  λ a b target write touch is_a is_b can can_touch writes allowed. fails (allow (grants_at one b) target touch)
      (λ given. (none b a is_b is_a target write touch).1 (record { asked = can; touched = can_touch; writes = writes; allowed = allowed; also = given })),
)

-- no requests cross from one address with any sample
abbrev pub ApartFrom : Option (List Pool) → List NetworkGrant → List NetworkGrant → List Address → Address → Type 0
ApartFrom pools one other samples a = Each (ApartAt pools one other a) samples

pub apart_anywhere : (pools : Option (List Pool)) (one other : Rights) (samples : List Address) → DecideFor (one ∷ other ∷ []) samples → Each (ApartFrom pools one.grants other.grants samples) samples
    → AreApart pools one.grants other.grants
apart_anywhere pools one other samples decide none = apart pools one.grants other.grants at
  where
    at : (a b : Address) → IsAddress a → IsAddress b → ApartAt pools one.grants other.grants a b
    at a b is_a is_b =
        let s = sample_for one other samples a decide is_a in
        let t = sample_for one other samples b decide is_b in
        crossed_along pools (grants_at one.grants s.at) (grants_at other.grants t.at) (grants_at one.grants a) (grants_at other.grants b) None s.mine t.theirs
        (each_has (ApartAt pools one.grants other.grants s.at) samples t.at (each_has (ApartFrom pools one.grants other.grants samples) samples s.at none s.among) t.among)

pub crossing_at : (pools : Option (List Pool)) (one other : Rights) (here : Ticket) (samples : List Address) (a : Address) (crossing : Crossing) → IsAddress a → here ≡ ticket_at one a
    → IsCrossedWith pools here.grants a other.grants samples (Some crossing) → IsCrossing pools one.grants other.grants crossing
crossing_at pools one other here samples a crossing is_a is (b, pair, is_b, shown, same) =
    let grants : here.grants ≡ grants_at one.grants a = ap (λ (t : Ticket). t.grants) is in
    let here_shown : IsPair pools (grants_at one.grants a) (grants_at other.grants b) pair = subst (λ l. IsPair pools l (grants_at other.grants b) pair) grants shown in
    subst (IsCrossing pools one.grants other.grants) (sym same) (record { same = here_shown.same; writes = here_shown.writes; mine = (is_a, here_shown.mine); theirs = (is_b, here_shown.theirs) })

pub apart_everywhere : (pools : Option (List Pool)) (one other : Rights) (here there : Ticket) → ((a : Address) → here ≡ ticket_at one a) → ((a : Address) → there ≡ ticket_at other a)
    → IsCrossedBy pools here.grants there.grants None → AreApart pools one.grants other.grants
apart_everywhere pools one other here there p q none =
    apart pools one.grants other.grants
    (λ a b is_a is_b. crossed_along pools here.grants there.grants (grants_at one.grants a) (grants_at other.grants b) None (ap (λ (t : Ticket). t.grants) (p a)) (ap (λ (t : Ticket). t.grants) (q b)) none)

pub crossing_everywhere : (pools : Option (List Pool)) (one other : Rights) (here there : Ticket) (pair : Pair) → ((a : Address) → here ≡ ticket_at one a) → ((a : Address) → there ≡ ticket_at other a)
    → IsPair pools here.grants there.grants pair → IsCrossing pools one.grants other.grants (crossing_of pair None None)
crossing_everywhere pools one other here there pair p q shown = record {
  same = shown.same;
  writes = shown.writes;
  mine = λ a is. subst (λ l. IsAllowed pools l pair.one) (ap (λ (t : Ticket). t.grants) (p a)) shown.mine;
  theirs = λ a is. subst (λ l. IsAllowed pools l pair.other) (ap (λ (t : Ticket). t.grants) (q a)) shown.theirs;
}

-- ---- what answers are

pub pair_meets : (pools : Option (List Pool)) (ones others : Flat) (one_writes other_writes : Bool) (one other : Touch) (found : Option Target) (target : Target) → one ≡ any_touch one_writes → other ≡ any_touch other_writes
    → found ≡ Some target → MatchOption found ((target : Target) → ¬ Meets pools ones one others other target) (λ target. Meets pools ones one others other target × (target.object ≢ []))
    → Meets pools ones (any_touch one_writes) others (any_touch other_writes) target × (target.object ≢ [])
pair_meets pools ones others one_writes other_writes one other found target p q is h =
    subst (λ t. Meets pools ones t others (any_touch other_writes) target × (target.object ≢ [])) p
    (subst (λ t. Meets pools ones one others t target × (target.object ≢ [])) q (met_some pools ones others one other found target is h))

pub request_none : (grants held : Flat) (target : Target) (writes : Bool) (found : Option Example) → held ≡ grants → found ≡ None → IsRequestAt held target writes found → IsRequestAt grants target writes None
request_none grants held target writes found same none h = subst (λ l. IsRequestAt l target writes None) same (subst (IsRequestAt held target writes) none h)

pub request_some : (grants held : Flat) (target : Target) (writes : Bool) (found : Option Example) (example : Example) → held ≡ grants → found ≡ Some example → IsRequestAt held target writes found
    → IsRequestAt grants target writes (Some example)
request_some grants held target writes found example same some h = subst (λ l. IsRequestAt l target writes (Some example)) same (subst (IsRequestAt held target writes) some h)

pub crossed_last : (pools : Option (List Pool)) (ones others : Flat) (both writes reads : Option Pair) → is_some both ≡ false → is_some writes ≡ false → IsPairBy pools ones true others true both
    → IsPairBy pools ones true others false writes → IsPairBy pools ones false others true reads → IsCrossedBy pools ones others reads
crossed_last pools ones others (Some both) writes reads p q h k m = absurd (false≢true (sym p))
crossed_last pools ones others None (Some writes) reads p q h k m = absurd (false≢true (sym q))
crossed_last pools ones others None None None p q h k m = never_crossed pools ones others h k m
crossed_last pools ones others None None (Some reads) p q h k m = second_writes pools ones others false reads m

pub apart_from : (pools : Option (List Pool)) (one other : Rights) (here : Ticket) (samples : List Address) (a : Address) (found : Option Crossing) → here ≡ ticket_at one a → is_some found ≡ false
    → IsCrossedWith pools here.grants a other.grants samples found → ApartFrom pools one.grants other.grants samples a
apart_from pools one other here samples a None is none h =
    subst (λ l. Each (λ b. IsCrossedBy pools l (grants_at other.grants b) None) samples) (ap (λ (t : Ticket). t.grants) is) h
apart_from pools one other here samples a (Some crossing) is none h = absurd (false≢true (sym none))
