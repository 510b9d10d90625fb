-- What the grants that some address has share is what two addresses share.
use Rattle.std.proofs.Common.{◌≡◌, ◌⊎◌, ◌||◌, ℕ, zero, suc, List, [], ◌∷◌, Bool, true, false, Option, Some, None, slice_get, slice_index_or, unwrap_or, refl, sym, ap, subst, ◌∙◌, inl, inr, arith, eq-eqb}
use Rattle.std.specs.Prelude.{if◌then◌else◌}
use Rattle.std.specs.List.{Contains}
use Rattle.std.proofs.lemmas.Bool.{false≢true}
use Rattle.std.proofs.lemmas.Option.{slice_get_within, slice_get-get_or, unwrap_or-slice_get}
use Rattle.cap_grants.specs.declared.grant.AllowGrant.{AllowGrant}
use Rattle.grant_core.specs.Flat.{Flat}
use Rattle.network_core.specs.declared.address.Address.{Address}
use Rattle.network_core.specs.declared.address.Address.TheVariants.{V4, V6}
use Rattle.network_core.specs.declared.network.Network.{Network}
use Rattle.network_core.specs.declared.network.Network.TheVariants.{Never, Range}
use Rattle.network_core.specs.Address.{IsAddress}
use Rattle.network_core.specs.Network.{first_bits, matches}
use Rattle.request_types.specs.Target.{Target}
use Rattle.rights_core.specs.Rights.{NetworkGrant, is_for, is_live, grants_at, live_grants, has_network, has_networks}
use Rattle.compare_core.proofs.Bools.{true_or_false}
use Rattle.share_core.specs.Sharing.{May, Share, ShareIn}
use Rattle.share_core.specs.declared.pools.Pool.{Pool}
use Rattle.share_core.specs.declared.touches.Touch.{Touch}
use Rattle.share_core.proofs.OneGrants.{OneGrant, may_by, one_grant}
use Rattle.share_text.specs.Addresses.{AreNetworks, IsNetwork, ShareFrom, SharesAreFromAddresses}
use Rattle.share_text.specs.Kinds.{ShareWithin, one_touch, other_touch}
use Rattle.share_text.specs.declared.kind.Kind.{Kind}

abbrev Entry : Type 0
Entry = List ℕ × AllowGrant

read_at : (xs : Flat) (i : ℕ) (x : Entry) → slice_get xs i ≡ Some x → slice_index_or xs i x ≡ x
read_at xs i x at = sym (unwrap_or-slice_get xs i x) ∙ ap (λ o. unwrap_or o x) at

among : (xs : Flat) (i : ℕ) (x : Entry) → slice_get xs i ≡ Some x → Contains xs x
among xs i x at = (i, slice_get_within xs i x at, read_at xs i x at)

first_contained : (x : Entry) (xs : Flat) → Contains (x ∷ xs) x
first_contained x xs = (zero, omega arith, refl)

later_contained : (x y : Entry) (xs : Flat) → Contains xs y → Contains (x ∷ xs) y
later_contained x y xs (k, low, is) = (suc k, omega (arith, low), is)

first_or_later : (x y : Entry) (xs : Flat) → Contains (x ∷ xs) y → (x ≡ y) ⊎ Contains xs y
first_or_later x y xs (zero, low, is) = inl is
first_or_later x y xs (suc k, low, is) = inr (k, omega (arith, low), is)

picked : (b : Bool) (x : Entry) (xs : Flat) → b ≡ true → (if b then x ∷ xs else xs) ≡ x ∷ xs
picked b x xs h = rw h refl

passed : (b : Bool) (x : Entry) (xs : Flat) → b ≡ false → (if b then x ∷ xs else xs) ≡ xs
passed b x xs h = rw h refl

-- ---- the grants that some address has

-- some address has the grant
abbrev IsGiven : List NetworkGrant → Entry → Type 0
IsGiven rights entry = (a : Address) × IsAddress a × Contains (grants_at rights a) entry

-- a network that matches an address is live
live_for : (o : Option Network) (a : Address) → is_for o a ≡ true → is_live o ≡ true
live_for None a h = refl
live_for (Some Never) a h = absurd (false≢true h)
live_for (Some (Range base size)) a h = refl

-- a live network matches an address
matches_own : (base : Address) (size : ℕ) → matches (Range base size) base ≡ true
matches_own (V4 n) size = eq-eqb (first_bits size (V4 n)) (first_bits size (V4 n)) refl
matches_own (V6 n) size = eq-eqb (first_bits size (V6 n)) (first_bits size (V6 n)) refl

address_for : (o : Option Network) → IsNetwork o → is_live o ≡ true → (a : Address) × IsAddress a × (is_for o a ≡ true)
address_for None is h =
    let zero_is : IsAddress (V4 0) = omega arith in
    (V4 0, zero_is, refl)
address_for (Some Never) is h = absurd (false≢true h)
address_for (Some (Range base size)) is h = (base, is, matches_own base size)

-- what an address has of the rest it has of all
rest_at : (e : NetworkGrant) (es : List NetworkGrant) (a : Address) (y : Entry) → Contains (grants_at es a) y → Contains (grants_at (e ∷ es) a) y
rest_at e es a y h = elim (true_or_false (is_for e.network a)) [
  | inl has ↦ subst (λ l. Contains l y) (sym (picked (is_for e.network a) (e.path, e.grant) (grants_at es a) has)) (later_contained (e.path, e.grant) y (grants_at es a) h)
  | inr none ↦ subst (λ l. Contains l y) (sym (passed (is_for e.network a) (e.path, e.grant) (grants_at es a) none)) h
]

first_given : (e : NetworkGrant) (es : List NetworkGrant) → IsNetwork e.network → is_live e.network ≡ true → IsGiven (e ∷ es) (e.path, e.grant)
first_given e es is live =
    let (a, is_a, has) = address_for e.network is live in
    (a, is_a, subst (λ l. Contains l (e.path, e.grant)) (sym (picked (is_for e.network a) (e.path, e.grant) (grants_at es a) has)) (first_contained (e.path, e.grant) (grants_at es a)))

later_given : (e : NetworkGrant) (es : List NetworkGrant) (y : Entry) → IsGiven es y → IsGiven (e ∷ es) y
later_given e es y (a, is_a, has) = (a, is_a, rest_at e es a y has)

live_given : (es : List NetworkGrant) (y : Entry) → AreNetworks es → Contains (live_grants es) y → IsGiven es y
live_given [] y are (k, low, is) = absurd (omega (arith, low))
live_given (e ∷ es) y are h = elim (true_or_false (is_live e.network)) [
  | inl live ↦ (
      elim (first_or_later (e.path, e.grant) y (live_grants es) (subst (λ l. Contains l y) (picked (is_live e.network) (e.path, e.grant) (live_grants es) live) h)) [
        | inl same ↦ subst (IsGiven (e ∷ es)) same (first_given e es are.0 live)
        | inr later ↦ later_given e es y (live_given es y are.1 later)
      ]
      )
  | inr dead ↦ later_given e es y (live_given es y are.1 (subst (λ l. Contains l y) (passed (is_live e.network) (e.path, e.grant) (live_grants es) dead) h))
]

rest_live : (e : NetworkGrant) (es : List NetworkGrant) (y : Entry) → Contains (live_grants es) y → Contains (live_grants (e ∷ es)) y
rest_live e es y h = elim (true_or_false (is_live e.network)) [
  | inl live ↦ subst (λ l. Contains l y) (sym (picked (is_live e.network) (e.path, e.grant) (live_grants es) live)) (later_contained (e.path, e.grant) y (live_grants es) h)
  | inr dead ↦ subst (λ l. Contains l y) (sym (passed (is_live e.network) (e.path, e.grant) (live_grants es) dead)) h
]

first_live : (e : NetworkGrant) (es : List NetworkGrant) (a : Address) → is_for e.network a ≡ true → Contains (live_grants (e ∷ es)) (e.path, e.grant)
first_live e es a has =
    subst (λ l. Contains l (e.path, e.grant)) (sym (picked (is_live e.network) (e.path, e.grant) (live_grants es) (live_for e.network a has))) (first_contained (e.path, e.grant) (live_grants es))

given_live : (es : List NetworkGrant) (a : Address) (y : Entry) → Contains (grants_at es a) y → Contains (live_grants es) y
given_live [] a y h = h
given_live (e ∷ es) a y h = elim (true_or_false (is_for e.network a)) [
  | inl has ↦ (
      elim (first_or_later (e.path, e.grant) y (grants_at es a) (subst (λ l. Contains l y) (picked (is_for e.network a) (e.path, e.grant) (grants_at es a) has) h)) [
        | inl same ↦ subst (Contains (live_grants (e ∷ es))) same (first_live e es a has)
        | inr later ↦ rest_live e es y (given_live es a y later)
      ]
      )
  | inr none ↦ rest_live e es y (given_live es a y (subst (λ l. Contains l y) (passed (is_for e.network a) (e.path, e.grant) (grants_at es a) none) h))
]

-- grants without networks are those that every address has

neither : (a b : Bool) → (a || b) ≡ false → (a ≡ false) × (b ≡ false)
neither true b h = absurd (false≢true (sym h))
neither false b h = (refl, h)

bare_for : (o : Option Network) (a : Address) → has_network o ≡ false → (is_live o ≡ true) × (is_for o a ≡ true)
bare_for None a h = (refl, refl)
bare_for (Some network) a h = absurd (false≢true (sym h))

pub bare_live : (es : List NetworkGrant) (a : Address) → has_networks es ≡ false → grants_at es a ≡ live_grants es
bare_live [] a h = refl
bare_live (e ∷ es) a h =
    let parts = neither (has_network e.network) (has_networks es) h in
    let bare = bare_for e.network a parts.0 in
    picked (is_for e.network a) (e.path, e.grant) (grants_at es a) bare.1
    ∙ ap (λ l. (e.path, e.grant) ∷ l) (bare_live es a parts.1)
    ∙ sym (picked (is_live e.network) (e.path, e.grant) (live_grants es) bare.0)

-- ---- what they allow

-- what one grant gives is allowed wherever that grant is
may_with : (grants here : Flat) (target : Target) (touch : Touch) (one : OneGrant grants target touch) → Contains here one.entry → May here target touch
may_with grants here target touch one (k, low, is) =
    let at : slice_get here k ≡ Some one.entry = slice_get-get_or here k one.entry low ∙ ap Some is in
    may_by here target touch k one.entry at one.matched one.given

-- what is allowed is allowed by more grants
may_more : (grants more : Flat) (target : Target) (touch : Touch) → ((entry : Entry) → Contains grants entry → Contains more entry) → May grants target touch → May more target touch
may_more grants more target touch keeps may =
    let one = one_grant grants target touch may in
    may_with grants more target touch one (keeps one.entry (among grants one.index one.entry one.at))

-- some address allows it
may_from : (rights : List NetworkGrant) (target : Target) (touch : Touch) → AreNetworks rights → May (live_grants rights) target touch
    → (a : Address) × IsAddress a × May (grants_at rights a) target touch
may_from rights target touch are may =
    let one = one_grant (live_grants rights) target touch may in
    let somewhere : IsGiven rights one.entry = live_given rights one.entry are (among (live_grants rights) one.index one.entry one.at) in
    (somewhere.0, somewhere.1, may_with (live_grants rights) (grants_at rights somewhere.0) target touch one somewhere.2)

-- the addresses at which two may touch a target
record Both (ones others : List NetworkGrant) (one other : Touch) (target : Target) : Type 0 where
  here : Address
  there : Address
  is_here : IsAddress here
  is_there : IsAddress there
  mine : May (grants_at ones here) target one
  theirs : May (grants_at others there) target other

both_from : (ones others : List NetworkGrant) (one other : Touch) (target : Target) → AreNetworks ones → AreNetworks others → May (live_grants ones) target one → May (live_grants others) target other
    → Both ones others one other target
both_from ones others one other target are also may they_may =
    let (a, is_a, here) = may_from ones target one are may in
    let (b, is_b, there) = may_from others target other also they_may in
    record { here = a; there = b; is_here = is_a; is_there = is_b; mine = here; theirs = there }

in_pools : (pools : List Pool) (ones others : List NetworkGrant) (one other : Touch) → AreNetworks ones → AreNetworks others → ShareIn pools (live_grants ones) one (live_grants others) other
    → (a b : Address) × IsAddress a × IsAddress b × ShareIn pools (grants_at ones a) one (grants_at others b) other
in_pools [] ones others one other are also shared = absurd shared
in_pools (pool ∷ pools) ones others one other are also (inl shared) =
    let both = both_from ones others one other shared.0 are also shared.1.2 shared.1.3 in
    (both.here, both.there, both.is_here, both.is_there, inl (shared.0, (shared.1.0, shared.1.1, both.mine, both.theirs)))
in_pools (pool ∷ pools) ones others one other are also (inr later) =
    let (a, b, is_a, is_b, shared) = in_pools pools ones others one other are also later in
    (a, b, is_a, is_b, inr shared)

anywhere : (ones others : List NetworkGrant) (one other : Touch) → AreNetworks ones → AreNetworks others → Share (live_grants ones) one (live_grants others) other
    → (a b : Address) × IsAddress a × IsAddress b × Share (grants_at ones a) one (grants_at others b) other
anywhere ones others one other are also shared =
    let both = both_from ones others one other shared.0 are also shared.1.1 shared.1.2 in
    (both.here, both.there, both.is_here, both.is_there, (shared.0, (shared.1.0, both.mine, both.theirs)))

from_addresses : (pools : Option (List Pool)) (kind : Kind) (ones others : List NetworkGrant) → AreNetworks ones → AreNetworks others → ShareWithin pools kind (live_grants ones) (live_grants others)
    → ShareFrom pools kind ones others
from_addresses None kind ones others are also shared = anywhere ones others (one_touch kind) (other_touch kind) are also shared
from_addresses (Some pools) kind ones others are also shared = in_pools pools ones others (one_touch kind) (other_touch kind) are also shared

-- more grants share more

more_in : (pools : List Pool) (ones others mine theirs : Flat) (one other : Touch) → ((entry : Entry) → Contains ones entry → Contains mine entry)
    → ((entry : Entry) → Contains others entry → Contains theirs entry) → ShareIn pools ones one others other → ShareIn pools mine one theirs other
more_in [] ones others mine theirs one other more also shared = absurd shared
more_in (pool ∷ pools) ones others mine theirs one other more also (inl shared) =
    inl (shared.0, (shared.1.0, shared.1.1, may_more ones mine shared.0 one more shared.1.2, may_more others theirs shared.0 other also shared.1.3))
more_in (pool ∷ pools) ones others mine theirs one other more also (inr later) = inr (more_in pools ones others mine theirs one other more also later)

more_anywhere : (ones others mine theirs : Flat) (one other : Touch) → ((entry : Entry) → Contains ones entry → Contains mine entry)
    → ((entry : Entry) → Contains others entry → Contains theirs entry) → Share ones one others other → Share mine one theirs other
more_anywhere ones others mine theirs one other more also shared =
    (shared.0, (shared.1.0, may_more ones mine shared.0 one more shared.1.1, may_more others theirs shared.0 other also shared.1.2))

more_within : (pools : Option (List Pool)) (kind : Kind) (ones others mine theirs : Flat) → ((entry : Entry) → Contains ones entry → Contains mine entry)
    → ((entry : Entry) → Contains others entry → Contains theirs entry) → ShareWithin pools kind ones others → ShareWithin pools kind mine theirs
more_within None kind ones others mine theirs more also shared = more_anywhere ones others mine theirs (one_touch kind) (other_touch kind) more also shared
more_within (Some pools) kind ones others mine theirs more also shared = more_in pools ones others mine theirs (one_touch kind) (other_touch kind) more also shared

to_addresses : (pools : Option (List Pool)) (kind : Kind) (ones others : List NetworkGrant) → ShareFrom pools kind ones others → ShareWithin pools kind (live_grants ones) (live_grants others)
to_addresses pools kind ones others (a, b, is_a, is_b, shared) =
    more_within pools kind (grants_at ones a) (grants_at others b) (live_grants ones) (live_grants others) (given_live ones a) (given_live others b) shared

pub from_and_to_addresses : SharesAreFromAddresses
from_and_to_addresses pools kind ones others are also = (from_addresses pools kind ones others are also, to_addresses pools kind ones others)
