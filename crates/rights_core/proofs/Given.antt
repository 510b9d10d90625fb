-- Which grants an address has, where grants and networks are beside one another.
use Rattle.std.proofs.Common.{◌≡◌, ℕ, ◌+◌, ◌<◌, ◌≤◌, Bool, true, false, ◌||◌, Bor, Option, None, Some, refl, sym, ap, append_assoc, zero, suc, List, [], ◌∷◌, ◌++◌, length, get_or, take, map, All, arith}
use Rattle.std.specs.List.{Contains, slice_get}
use Rattle.std.specs.Option.{option_map, unwrap_or}
use Rattle.std.proofs.lemmas.List.Elements.{All-head, All-tail, All-contains, All-more, All-weaker, All-map}
use Rattle.std.proofs.lemmas.List.{take_all}
use Rattle.std.proofs.lemmas.Option.{slice_get_read}
use Rattle.cap_grants.specs.declared.grant.AllowGrant.{AllowGrant}
use Rattle.network_core.specs.declared.address.Address.{Address}
use Rattle.network_core.specs.declared.network.Network.{Network}
use Rattle.network_core.specs.Network.{matches}
use Rattle.network_core.specs.Samples.{AreAlike, AreSamples}
use Rattle.verdict_core.specs.Ticket.{Ticket}
use Rattle.rights_core.specs.Rights.{NetworkGrant, Rights, is_for, grants_at, ticket_at, live_grants, has_network, has_networks, with_networks}
use Rattle.rights_core.specs.Given.{HasNetwork, HasNetworks, reached}
use Rattle.rights_core.specs.Reports.{is_reached}
use Rattle.rights_core.specs.Samples.{HaveSame, DecideFor}

-- Without networks, an address has all grants.
pub all_without : (gs : List (List ℕ × AllowGrant)) (ns : List (Option Network)) (a : Address) → has_networks (with_networks gs ns) ≡ false → grants_at (with_networks gs ns) a ≡ gs
all_without [] ns a h = refl
all_without (g ∷ gs) [] a h = ap (λ rest. g ∷ rest) (all_without gs [] a h)
all_without (g ∷ gs) (None ∷ ns) a h = ap (λ rest. g ∷ rest) (all_without gs ns a h)
all_without (g ∷ gs) (Some n ∷ ns) a h = cc

pub no_networks : (gs : List (List ℕ × AllowGrant)) → has_networks (with_networks gs []) ≡ false
no_networks [] = refl
no_networks (g ∷ gs) = no_networks gs

pub same_ticket : (t : Ticket) (gs : List (List ℕ × AllowGrant)) → gs ≡ t.grants → t ≡ record { grants = gs; until = t.until }
same_ticket t gs e = rw e refl

-- a ticket is that of every address where no grant has a network
pub every_address : (r : Rights) (t : Ticket) (ns : List (Option Network)) → r ≡ record { grants = with_networks t.grants ns; until = t.until } → has_networks r.grants ≡ false → (a : Address) → t ≡ ticket_at r a
every_address r t ns e none a =
    let here : has_networks (with_networks t.grants ns) ≡ false = rw e at none in
    rw e (same_ticket t _ (all_without t.grants ns a here))

-- the networks of a list's grants are among those of the list
pub has_all : (xs : List Network) (gs : List (List ℕ × AllowGrant)) (ns : List (Option Network)) → All (HasNetwork xs) ns → HasNetworks xs (with_networks gs ns)
has_all xs [] ns h = tt
has_all xs (g ∷ gs) [] h = (tt, has_all xs gs [] h)
has_all xs (g ∷ gs) (n ∷ ns) h = (All-head (HasNetwork xs) n ns h, has_all xs gs ns (All-tail (HasNetwork xs) n ns h))

pub has_at_end : (xs : List Network) (es : List NetworkGrant) (gs : List (List ℕ × AllowGrant)) (ns ns' : List (Option Network)) (i : ℕ) → es ≡ with_networks gs ns' → ns ≡ ns' → length ns ≤ i → All (HasNetwork xs) (take i ns) → HasNetworks xs es
has_at_end xs es gs ns ns' i e same past has = rw (e, ← same) (has_all xs gs ns (rw (take_all i ns past) at has))

pub more_network : (xs ys : List Network) → ((n : Network) → Contains xs n → Contains ys n) → (o : Option Network) → HasNetwork xs o → HasNetwork ys o
more_network xs ys more None h = tt
more_network xs ys more (Some n) h = more n h

pub more_networks : (xs ys : List Network) → ((n : Network) → Contains xs n → Contains ys n) → (es : List NetworkGrant) → HasNetworks xs es → HasNetworks ys es
more_networks xs ys more [] h = tt
more_networks xs ys more (e ∷ es) h = (more_network xs ys more e.network h.0, more_networks xs ys more es h.1)

-- one more grant's network
pub network_more : (ns : List (Option Network)) (i : ℕ) (o : Option Network) (xs ys : List Network) → i < length ns → o ≡ get_or ns i o → ((n : Network) → Contains xs n → Contains ys n) → HasNetwork ys o → All (HasNetwork xs) (take i ns) → All (HasNetwork ys) (take (i + 1) ns)
network_more ns i o xs ys within is more has before =
    All-more (HasNetwork ys) ns i o within (All-weaker (HasNetwork xs) (HasNetwork ys) (more_network xs ys more) (take i ns) before) (rw (← is) has)

-- A grant is for two addresses alike, where its network is.
is_for_alike : (xs : List Network) (s a : Address) (o : Option Network) → AreAlike xs s a → HasNetwork xs o → is_for o s ≡ is_for o a
is_for_alike xs s a None alike has = refl
is_for_alike xs s a (Some n) alike has = All-contains (λ network. matches network s ≡ matches network a) xs n alike has

grants_alike : (xs : List Network) (s a : Address) (es : List NetworkGrant) → AreAlike xs s a → HasNetworks xs es → grants_at es s ≡ grants_at es a
grants_alike xs s a [] alike has = refl
grants_alike xs s a (e ∷ es) alike has =
    let first : is_for e.network s ≡ is_for e.network a = is_for_alike xs s a e.network alike has.0 in
    let rest : grants_at es s ≡ grants_at es a = grants_alike xs s a es alike has.1 in
    cc

pub ticket_alike : (xs : List Network) (s a : Address) (r : Rights) → AreAlike xs s a → HasNetworks xs r.grants → ticket_at r s ≡ ticket_at r a
ticket_alike xs s a r alike has = ap (λ gs. record { grants = gs; until = r.until }) (grants_alike xs s a r.grants alike has)

-- Samples of all networks decide for all rights.
pub decide : (xs : List Network) (samples : List Address) (all : List Rights) → AreSamples xs samples → All (λ r. HasNetworks xs r.grants) all → DecideFor all samples
decide xs samples all are has = record {
  are_addresses = are.are_addresses;
  stand = λ a is_address.
      let sample = are.stand a is_address in
      (sample.0, sample.1, λ k d within. ticket_alike xs sample.0 a (get_or all k d) sample.2 (has k d within));
}

-- the networks of one more of the rights
pub rights_more : (all : List (Bor Rights)) (i : ℕ) (r : Bor Rights) (xs ys : List Network) → i < length all → r ≡ get_or all i r → ((n : Network) → Contains xs n → Contains ys n) → HasNetworks ys r.now.grants → All (λ (r : Bor Rights). HasNetworks xs r.now.grants) (take i all) → All (λ (r : Bor Rights). HasNetworks ys r.now.grants) (take (i + 1) all)
rights_more all i r xs ys within is more has before =
    All-more (λ (r : Bor Rights). HasNetworks ys r.now.grants) all i r within
    (All-weaker (λ (r : Bor Rights). HasNetworks xs r.now.grants) (λ (r : Bor Rights). HasNetworks ys r.now.grants) (λ r h. more_networks xs ys more r.now.grants h) (take i all) before)
    (rw (← is) has)

pub all_decided : (xs xs' : List Network) (samples : List Address) (all : List (Bor Rights)) (i : ℕ) → length all ≤ i → xs' ≡ xs → AreSamples xs' samples → All (λ (r : Bor Rights). HasNetworks xs r.now.grants) (take i all) → DecideFor (map (λ (r : Bor Rights). r.now) all) samples
all_decided xs xs' samples all i past same are has =
    decide xs samples (map (λ (r : Bor Rights). r.now) all) (rw same at are)
    (All-map (λ (r : Rights). HasNetworks xs r.grants) (λ (r : Bor Rights). r.now) all (rw (take_all i all past) at has))

-- One step along grants with their networks. The premises are what `split_first` and `first_network` say.
abbrev pub IsFirst : List (Option Network) → Option Network → List (Option Network) → Type 0
IsFirst ns n others = (g : List ℕ × AllowGrant) (gs : List (List ℕ × AllowGrant)) → with_networks (g ∷ gs) ns ≡ record { path = g.0; network = n; grant = g.1 } ∷ with_networks gs others

pub has_step : (all gs : List (List ℕ × AllowGrant)) (g : List ℕ × AllowGrant) (ns others : List (Option Network)) (n : Option Network) → all ≡ g ∷ gs → IsFirst ns n others → has_networks (with_networks all ns) ≡ (has_network n || has_networks (with_networks gs others))
has_step all gs g ns others n e first = rw (e, first g gs) refl

-- an address, or some address if none is given, has a grant and what it has of the rest
pub kept_step : (all gs : List (List ℕ × AllowGrant)) (g : List ℕ × AllowGrant) (ns others : List (Option Network)) (n : Option Network) (from : Option Address) → all ≡ g ∷ gs → IsFirst ns n others → is_reached n from ≡ true → reached (with_networks all ns) from ≡ g ∷ reached (with_networks gs others) from
kept_step all gs g ns others n from e first reaches = rw (e, first g gs, reaches) refl

pub left_step : (all gs : List (List ℕ × AllowGrant)) (g : List ℕ × AllowGrant) (ns others : List (Option Network)) (n : Option Network) (from : Option Address) → all ≡ g ∷ gs → IsFirst ns n others → is_reached n from ≡ false → reached (with_networks all ns) from ≡ reached (with_networks gs others) from
left_step all gs g ns others n from e first passes = rw (e, first g gs, passes) refl

-- what was given and one grant more, in front of what is left
pub one_more : (given given' : List (List ℕ × AllowGrant)) (g g' : List ℕ × AllowGrant) (before rest whole : List (List ℕ × AllowGrant)) → given ++ before ≡ whole → before ≡ g ∷ rest → given' ≡ given ++ g' ∷ [] → g' ≡ g → given' ++ rest ≡ whole
one_more given given' g g' before rest whole all first more same = rw (more, same, append_assoc given (g ∷ []) rest, ← first) all

pub reached_at : (es : List NetworkGrant) (a : Address) → reached es (Some a) ≡ grants_at es a
reached_at [] a = refl
reached_at (e ∷ es) a = rw (reached_at es a) refl

pub reached_anywhere : (es : List NetworkGrant) → reached es None ≡ live_grants es
reached_anywhere [] = refl
reached_anywhere (e ∷ es) = rw (reached_anywhere es) refl

pub length_with : (gs : List (List ℕ × AllowGrant)) (ns : List (Option Network)) → length (with_networks gs ns) ≡ length gs
length_with [] ns = refl
length_with (g ∷ gs) [] = ap suc (length_with gs [])
length_with (g ∷ gs) (n ∷ ns) = ap suc (length_with gs ns)

-- a grant with its network
abbrev pub with_network : Option Network → List ℕ × AllowGrant → NetworkGrant
with_network n g = record { path = g.0; network = n; grant = g.1 }

pub entry_at : (gs : List (List ℕ × AllowGrant)) (ns : List (Option Network)) (i : ℕ) → slice_get (with_networks gs ns) i ≡ option_map (with_network (unwrap_or (slice_get ns i) None)) (slice_get gs i)
entry_at [] ns i = refl
entry_at (g ∷ gs) [] zero = refl
entry_at (g ∷ gs) [] (suc i) = entry_at gs [] i
entry_at (g ∷ gs) (n ∷ ns) zero = refl
entry_at (g ∷ gs) (n ∷ ns) (suc i) = entry_at gs ns i

-- what is at an index, and that nothing is behind the end
pub entry_found : (es : List NetworkGrant) (gs gs' : List (List ℕ × AllowGrant)) (ns : List (Option Network)) (i : ℕ) (g : List ℕ × AllowGrant) (n : Option Network) → es ≡ with_networks gs ns → gs' ≡ gs → i < length gs' → g ≡ get_or gs' i g → n ≡ unwrap_or (slice_get ns i) None → slice_get es i ≡ Some (record { path = g.0; network = n; grant = g.1 })
entry_found es gs gs' ns i g n e same within is net =
    let found : slice_get gs i ≡ Some g = rw (← same) (slice_get_read gs' (length gs') i g refl within is) in
    rw (e, entry_at gs ns i, found, net) refl

pub entry_missing : (es : List NetworkGrant) (gs gs' : List (List ℕ × AllowGrant)) (ns : List (Option Network)) (i : ℕ) → es ≡ with_networks gs ns → gs' ≡ gs → length gs' ≤ i → length es ≤ i
entry_missing es gs gs' ns i e same past = rw (e, length_with gs ns, ← same) past

pub ruleset grant_steps = (has_step, no_networks)
