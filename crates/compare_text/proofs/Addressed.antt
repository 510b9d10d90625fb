-- What the examples of each grant, each from an address, say of the whole rights.
use Rattle.std.proofs.Common.{◌≡◌, ℕ, zero, suc, ◌<◌, ◌^◌, List, [], ◌∷◌, ◌++◌, Bool, true, false, ◌||◌, Option, Some, None, All, slice_get, refl, sym, ap, subst, ◌∙◌, ◌⊎◌, inl, inr, arith, append_assoc, if◌then◌else◌}
use Rattle.std.specs.Option.{option_to_list, MatchOption}
use Rattle.std.specs.List.{Contains}
use Rattle.std.proofs.lemmas.List.Elements.{All-contains, All-nil, All-cons, Contains-push}
use Rattle.std.proofs.lemmas.Bool.{false≢true}
use Rattle.cap_grants.specs.declared.grant.AllowGrant.{AllowGrant}
use Rattle.network_core.specs.declared.address.Address.{Address}
use Rattle.network_core.specs.declared.address.Address.TheVariants.{V4}
use Rattle.network_core.specs.declared.network.Network.{Network}
use Rattle.network_core.specs.Address.{IsAddress}
use Rattle.network_core.specs.Network.{matches}
use Rattle.network_core.specs.Samples.{AreAlike, AreSamples}
use Rattle.rights_core.specs.Given.{HasNetwork, HasNetworks}
use Rattle.rights_core.specs.Rights.{NetworkGrant, grants_at, has_network, has_networks, is_for}
use Rattle.request_types.specs.Target.{Target}
use Rattle.request_types.specs.declared.request.Needs.{Needs}
use Rattle.verdict_core.specs.Verdict.{grants_allow}
use Rattle.compare_core.specs.Widening.{AnswersBy, IsExampleBy, IsGainedBy, Request, WidensBy, request_of}
use Rattle.compare_core.specs.declared.comparing.Example.{Example}
use Rattle.compare_core.specs.declared.registry.Registry.{Registry}
use Rattle.compare_core.proofs.Gains.{allowed_among, nothing_widens}
use Rattle.compare_text.specs.Addresses.{AreExamples, IsExampleFrom, IsGainedAt, IsGainedFrom, WidensFrom, is_given}
use Rattle.compare_text.specs.Deciding.{AreBefore, AreForBoth, DecideFor}
use Rattle.compare_text.specs.declared.widening.AddressedExample.{AddressedExample}

abbrev pub Grants : Type 0
Grants = List (List ℕ × AllowGrant)

-- ---- the grants of an address

-- one more grant, by whether it is for the address
for_it : (entry : NetworkGrant) (new : List NetworkGrant) (a : Address) → is_for entry.network a ≡ true → grants_at (entry ∷ new) a ≡ (entry.path, entry.grant) ∷ grants_at new a
for_it entry new a e = ap (λ b. if b then (entry.path, entry.grant) ∷ grants_at new a else grants_at new a) e

not_for_it : (entry : NetworkGrant) (new : List NetworkGrant) (a : Address) → is_for entry.network a ≡ false → grants_at (entry ∷ new) a ≡ grants_at new a
not_for_it entry new a e = ap (λ b. if b then (entry.path, entry.grant) ∷ grants_at new a else grants_at new a) e

either : (b : Bool) → (b ≡ true) ⊎ (b ≡ false)
either true = inl refl
either false = inr refl

-- without grants nothing is allowed
nothing_allowed : (target : Target) (needs : Needs) → grants_allow [] target needs ≡ true → ⊥
nothing_allowed target needs h = false≢true h

-- a grant is among those of each address that it is for
abbrev HasAt : List NetworkGrant → NetworkGrant → Type 0
HasAt new entry = (a : Address) → is_for entry.network a ≡ true → (j : ℕ) × (slice_get (grants_at new a) j ≡ Some (entry.path, entry.grant))

head_at : (entry : NetworkGrant) (new : List NetworkGrant) → HasAt (entry ∷ new) entry
head_at entry new a is = (0, ap (λ l. slice_get l 0) (for_it entry new a is))

later_at : (other entry : NetworkGrant) (new : List NetworkGrant) → HasAt new entry → HasAt (other ∷ new) entry
later_at other entry new has a is = go (either (is_for other.network a))
  where
    go : (is_for other.network a ≡ true) ⊎ (is_for other.network a ≡ false) → (j : ℕ) × (slice_get (grants_at (other ∷ new) a) j ≡ Some (entry.path, entry.grant))
    go (inl e) = (suc (has a is).0, ap (λ l. slice_get l (suc (has a is).0)) (for_it other new a e) ∙ (has a is).1)
    go (inr e) = ((has a is).0, ap (λ l. slice_get l (has a is).0) (not_for_it other new a e) ∙ (has a is).1)

-- what a grant by itself gains, rights that have it gain
raised : (registry : Registry) (old new : List NetworkGrant) (entry : NetworkGrant) (a : Address) (request : Request) → HasAt new entry → IsGainedFrom registry old (entry ∷ []) a request → IsGainedFrom registry old new a request
raised registry old new entry a request has gained = go (either (is_for entry.network a))
  where
    go : (is_for entry.network a ≡ true) ⊎ (is_for entry.network a ≡ false) → IsGainedFrom registry old new a request
    go (inl e) = (
      gained.0,
      (
        gained.1.0,
        allowed_among (grants_at new a) (has a e).0 (entry.path, entry.grant) request.target request.needs (has a e).1
            (sym (ap (λ l. grants_allow l request.target request.needs) (for_it entry [] a e)) ∙ gained.1.1),
        gained.1.2,
      ),
    )
    go (inr e) = absurd (nothing_allowed request.target request.needs (sym (ap (λ l. grants_allow l request.target request.needs) (not_for_it entry [] a e)) ∙ gained.1.1))

-- ---- what examples say

-- the first example is one of a grant
first_of : (registry : Registry) (addressed : Bool) (old new : List NetworkGrant) (found : AddressedExample) (examples : List AddressedExample) → AreExamples registry addressed old new (found ∷ examples)
    → (entry : NetworkGrant) × (HasAt new entry × IsExampleFrom registry addressed old entry found)
first_of registry addressed old [] found examples h = absurd h
first_of registry addressed old (entry ∷ new) found examples h =
    elim h [
      | inl shown ↦ (entry, (head_at entry new, shown.0))
      | inr silent ↦
          let later = first_of registry addressed old new found examples silent.1 in
          (later.0, (later_at entry later.0 new later.1.0, later.1.1))
    ]

widens_at : (registry : Registry) (old new : List NetworkGrant) (entry : NetworkGrant) (from : Option Address) (request : Request) → HasAt new entry → IsGainedAt registry old (entry ∷ []) from request → WidensFrom registry old new
widens_at registry old new entry (Some a) request has gained = (a, request, raised registry old new entry a request has gained)
widens_at registry old new entry None request has gained =
    let zero_is : IsAddress (V4 0) = omega arith in
    (V4 0, request, raised registry old new entry (V4 0) request has (gained (V4 0) zero_is))

-- with an example, something is gained from some address
pub some_widens : (registry : Registry) (addressed : Bool) (old new : List NetworkGrant) (found : AddressedExample) (examples : List AddressedExample) → AreExamples registry addressed old new (found ∷ examples) → WidensFrom registry old new
some_widens registry addressed old new found examples h =
    let one = first_of registry addressed old new found examples h in
    widens_at registry old new one.0 found.from (request_of found.example) one.1.0 one.1.1.gained

-- without examples, each grant of an address is silent there
silent_there : (registry : Registry) (addressed : Bool) (old new : List NetworkGrant) (a : Address) → IsAddress a → AreExamples registry addressed old new [] → AnswersBy registry (grants_at old a) (grants_at new a) []
silent_there registry addressed old [] a is h = tt
silent_there registry addressed old (entry ∷ new) a is h = go (either (is_for entry.network a)) (silent_there registry addressed old new a is h.1)
  where
    go : (is_for entry.network a ≡ true) ⊎ (is_for entry.network a ≡ false) → AnswersBy registry (grants_at old a) (grants_at new a) [] → AnswersBy registry (grants_at old a) (grants_at (entry ∷ new) a) []
    go (inl e) rest =
        subst (λ l. AnswersBy registry (grants_at old a) l []) (sym (for_it entry new a e))
        ((λ w. h.0 (a, w.0, (is, subst (λ l. IsGainedBy registry (grants_at old a) l w.0) (sym (for_it entry [] a e)) w.1))), rest)
    go (inr e) rest = subst (λ l. AnswersBy registry (grants_at old a) l []) (sym (not_for_it entry new a e)) rest

-- and nothing is gained from any address
pub nothing_widens_from : (registry : Registry) (addressed : Bool) (old new : List NetworkGrant) → AreExamples registry addressed old new [] → ¬ WidensFrom registry old new
nothing_widens_from registry addressed old new h (a, request, gained) =
    nothing_widens registry (grants_at old a) (grants_at new a) (silent_there registry addressed old new a gained.0 h) (request, gained.1)

-- ---- the examples of one grant after another

pub nothing_before : (registry : Registry) (addressed : Bool) (old new : List NetworkGrant) → AreBefore registry addressed old new new []
nothing_before registry addressed old new others h = h

silent_first : (registry : Registry) (addressed : Bool) (old rest : List NetworkGrant) (entry : NetworkGrant) (others : List AddressedExample) → ¬ WidensFrom registry old (entry ∷ []) → AreExamples registry addressed old rest others → AreExamples registry addressed old (entry ∷ rest) others
silent_first registry addressed old rest entry [] none h = (none, h)
silent_first registry addressed old rest entry (found ∷ others) none h = inr (none, h)

append_nil : (l : List AddressedExample) → l ++ [] ≡ l
append_nil [] = refl
append_nil (x ∷ xs) = ap (λ l. x ∷ l) (append_nil xs)

-- one more grant
pub more_before : (registry : Registry) (addressed : Bool) (old new rest : List NetworkGrant) (entry : NetworkGrant) (examples : List AddressedExample) (found : Option AddressedExample) → AreBefore registry addressed old new (entry ∷ rest) examples
    → MatchOption found (¬ WidensFrom registry old (entry ∷ [])) (λ one. IsExampleFrom registry addressed old entry one) → AreBefore registry addressed old new rest (examples ++ option_to_list found)
more_before registry addressed old new rest entry examples None before none others h =
    subst (λ l. AreExamples registry addressed old new (l ++ others)) (sym (append_nil examples)) (before others (silent_first registry addressed old rest entry others none h))
more_before registry addressed old new rest entry examples (Some found) before some others h =
    subst (AreExamples registry addressed old new) (sym (append_assoc examples (found ∷ []) others)) (before (found ∷ others) (inl (some, h)))

-- all grants
pub all_before : (registry : Registry) (addressed : Bool) (old new : List NetworkGrant) (examples : List AddressedExample) → AreBefore registry addressed old new [] examples → AreExamples registry addressed old new examples
all_before registry addressed old new examples before = subst (AreExamples registry addressed old new) (append_nil examples) (before [] tt)

pub all_found : (registry : Registry) (addressed given : Bool) (old new rest : List NetworkGrant) (examples : List AddressedExample) → addressed ≡ given → rest ≡ [] → AreBefore registry addressed old new rest examples → AreExamples registry given old new examples
all_found registry addressed given old new rest examples same none before =
    subst (λ b. AreExamples registry b old new examples) same (all_before registry addressed old new examples (subst (λ l. AreBefore registry addressed old new l examples) none before))

-- ---- what samples decide

neither : (a b : Bool) → (a || b) ≡ false → (a ≡ false) × (b ≡ false)
neither true b h = absurd (false≢true (sym h))
neither false b h = (refl, h)

join : (a b : Bool) → a ≡ false → b ≡ false → (a || b) ≡ false
join true b p q = absurd (false≢true (sym p))
join false b p q = q

network_alike : (network : Option Network) (a b : Address) → has_network network ≡ false → is_for network a ≡ is_for network b
network_alike None a b h = refl
network_alike (Some network) a b h = absurd (false≢true (sym h))

-- grants without networks are the same at every address
same_everywhere : (entries : List NetworkGrant) (a b : Address) → has_networks entries ≡ false → grants_at entries a ≡ grants_at entries b
same_everywhere [] a b h = refl
same_everywhere (entry ∷ entries) a b h =
    let parts = neither (has_network entry.network) (has_networks entries) h in
    alike_grants (is_for entry.network a) (is_for entry.network b) (network_alike entry.network a b parts.0) (same_everywhere entries a b parts.1)
  where
    alike_grants : (p q : Bool) → p ≡ q → grants_at entries a ≡ grants_at entries b → (if p then (entry.path, entry.grant) ∷ grants_at entries a else grants_at entries a) ≡ (if q then (entry.path, entry.grant) ∷ grants_at entries b else grants_at entries b)
    alike_grants p q same rest = cc

for_both : (entries : List NetworkGrant) (a b : Address) → has_networks entries ≡ false → AreForBoth entries a b
for_both [] a b h = tt
for_both (entry ∷ entries) a b h =
    let parts = neither (has_network entry.network) (has_networks entries) h in
    (network_alike entry.network a b parts.0, for_both entries a b parts.1)

-- one address decides where no grant has a network
pub one_decides : (addressed : Bool) (old new : List NetworkGrant) (samples : List Address) → addressed ≡ (has_networks old || has_networks new) → addressed ≡ false → samples ≡ [] ++ V4 0 ∷ [] → DecideFor addressed old new samples
one_decides addressed old new samples is bare one =
    let none : (has_networks old || has_networks new) ≡ false = sym is ∙ bare in
    let parts = neither (has_networks old) (has_networks new) none in
    let zero_is : IsAddress (V4 0) = omega arith in
    subst (DecideFor addressed old new) (sym one) (record {
      are_addresses = All-cons IsAddress (V4 0) [] zero_is (All-nil IsAddress);
      stand = λ a is_address. (V4 0, Contains-push [] (V4 0), same_everywhere old (V4 0) a parts.0, for_both new (V4 0) a parts.1);
      bare = λ h. none;
    })

network_for_both : (networks : List Network) (sample a : Address) (network : Option Network) → AreAlike networks sample a → HasNetwork networks network → is_for network sample ≡ is_for network a
network_for_both networks sample a None alike has = refl
network_for_both networks sample a (Some network) alike has = All-contains (λ n. matches n sample ≡ matches n a) networks network alike has

same_grants : (networks : List Network) (sample a : Address) (entries : List NetworkGrant) → AreAlike networks sample a → HasNetworks networks entries → grants_at entries sample ≡ grants_at entries a
same_grants networks sample a [] alike has = refl
same_grants networks sample a (entry ∷ entries) alike has =
    let first : is_for entry.network sample ≡ is_for entry.network a = network_for_both networks sample a entry.network alike has.0 in
    let rest : grants_at entries sample ≡ grants_at entries a = same_grants networks sample a entries alike has.1 in
    cc

alike_for_both : (networks : List Network) (sample a : Address) (entries : List NetworkGrant) → AreAlike networks sample a → HasNetworks networks entries → AreForBoth entries sample a
alike_for_both networks sample a [] alike has = tt
alike_for_both networks sample a (entry ∷ entries) alike has = (network_for_both networks sample a entry.network alike has.0, alike_for_both networks sample a entries alike has.1)

more_networks : (xs ys : List Network) → ((n : Network) → Contains xs n → Contains ys n) → (entries : List NetworkGrant) → HasNetworks xs entries → HasNetworks ys entries
more_networks xs ys more [] h = tt
more_networks xs ys more (entry ∷ entries) h = (one entry.network h.0, more_networks xs ys more entries h.1)
  where
    one : (network : Option Network) → HasNetwork xs network → HasNetwork ys network
    one None has = tt
    one (Some network) has = more network has

-- samples of the networks of both decide
pub samples_decide : (first networks : List Network) (old new : List NetworkGrant) (samples : List Address) → HasNetworks first old → ((n : Network) → Contains first n → Contains networks n) → HasNetworks networks new → AreSamples networks samples → DecideFor true old new samples
samples_decide first networks old new samples of_old keeps of_new are = record {
  are_addresses = are.are_addresses;
  stand = λ a is_address.
      let sample = are.stand a is_address in
      (sample.0, sample.1, same_grants networks sample.0 a old sample.2 (more_networks first networks keeps old of_old), alike_for_both networks sample.0 a new sample.2 of_new);
  bare = λ h. absurd (false≢true (sym h));
}

-- what decides for all grants decides for the first, and for the others
pub decide_first : (addressed : Bool) (old new : List NetworkGrant) (entry : NetworkGrant) (samples : List Address) → DecideFor addressed old (entry ∷ new) samples → DecideFor addressed old (entry ∷ []) samples
decide_first addressed old new entry samples decide = record {
  are_addresses = decide.are_addresses;
  stand = λ a is_address. let sample = decide.stand a is_address in (sample.0, sample.1, sample.2, (sample.3.0, tt));
  bare = λ h.
      let parts = neither (has_networks old) (has_networks (entry ∷ new)) (decide.bare h) in
      let mine = neither (has_network entry.network) (has_networks new) parts.1 in
      join (has_networks old) (has_networks (entry ∷ [])) parts.0 (join (has_network entry.network) false mine.0 refl);
}

pub decide_others : (addressed : Bool) (old new : List NetworkGrant) (entry : NetworkGrant) (samples : List Address) → DecideFor addressed old (entry ∷ new) samples → DecideFor addressed old new samples
decide_others addressed old new entry samples decide = record {
  are_addresses = decide.are_addresses;
  stand = λ a is_address. let sample = decide.stand a is_address in (sample.0, sample.1, sample.2, sample.3.1);
  bare = λ h.
      let parts = neither (has_networks old) (has_networks (entry ∷ new)) (decide.bare h) in
      let mine = neither (has_network entry.network) (has_networks new) parts.1 in
      join (has_networks old) (has_networks new) parts.0 mine.1;
}

-- an example from a sample
pub example_decided : (registry : Registry) (addressed : Bool) (old : List NetworkGrant) (entry : NetworkGrant) (samples : List Address) (sample : Address) (from : Option Address) (example : Example)
    → DecideFor addressed old (entry ∷ []) samples → Contains samples sample → from ≡ (if addressed then Some sample else None) → example.path ≡ entry.path
    → IsGainedBy registry (grants_at old sample) (grants_at (entry ∷ []) sample) (request_of example) → IsExampleFrom registry addressed old entry (record { from = from; example = example })
example_decided registry true old entry samples sample from example decide among is path gained =
    subst (λ f. IsExampleFrom registry true old entry (record { from = f; example = example })) (sym is)
    (record { path = path; given = refl; gained = (All-contains IsAddress samples sample decide.are_addresses among, gained) })
example_decided registry false old entry samples sample from example decide among is path gained =
    let parts = neither (has_networks old) (has_networks (entry ∷ [])) (decide.bare refl) in
    subst (λ f. IsExampleFrom registry false old entry (record { from = f; example = example })) (sym is)
    (record {
      path = path;
      given = refl;
      gained = λ a is_address. (
        is_address,
        subst (λ l. IsGainedBy registry l (grants_at (entry ∷ []) a) (request_of example)) (same_everywhere old sample a parts.0)
            (subst (λ l. IsGainedBy registry (grants_at old sample) l (request_of example)) (same_everywhere (entry ∷ []) sample a parts.1) gained),
      );
    })

-- silent at each sample, and so from every address
pub silence_decided : (registry : Registry) (addressed : Bool) (old : List NetworkGrant) (entry : NetworkGrant) (samples : List Address) → DecideFor addressed old (entry ∷ []) samples
    → All (λ a. ¬ WidensBy registry (grants_at old a) (grants_at (entry ∷ []) a)) samples → ¬ WidensFrom registry old (entry ∷ [])
silence_decided registry addressed old entry samples decide silent (a, request, gained) =
    let sample = decide.stand a gained.0 in
    let mine : grants_at (entry ∷ []) a ≡ grants_at (entry ∷ []) sample.0 = ap (λ b. if b then (entry.path, entry.grant) ∷ [] else []) (sym sample.3.0) in
    All-contains (λ s. ¬ WidensBy registry (grants_at old s) (grants_at (entry ∷ []) s)) samples sample.0 silent sample.1 (
      request,
      subst (λ l. IsGainedBy registry l (grants_at (entry ∷ []) sample.0) request) (sym sample.2)
          (subst (λ l. IsGainedBy registry (grants_at old a) l request) mine gained.1),
    )

-- ---- one grant at one address

-- a grant that is not for an address widens nothing there
pub absent_silent : (registry : Registry) (old : Grants) (entry : NetworkGrant) (a : Address) → is_for entry.network a ≡ false → ¬ WidensBy registry old (grants_at (entry ∷ []) a)
absent_silent registry old entry a e (request, gained) = nothing_allowed request.target request.needs (sym (ap (λ l. grants_allow l request.target request.needs) (not_for_it entry [] a e)) ∙ gained.1)

-- one that is for it is alone there
pub present_alone : (registry : Registry) (old : Grants) (entry : NetworkGrant) (a : Address) (found : Option Example) → is_for entry.network a ≡ true
    → MatchOption found (¬ WidensBy registry old ((entry.path, entry.grant) ∷ [])) (λ example. (example.path ≡ entry.path) × IsGainedBy registry old ((entry.path, entry.grant) ∷ []) (request_of example))
    → MatchOption found (¬ WidensBy registry old (grants_at (entry ∷ []) a)) (λ example. (example.path ≡ entry.path) × IsGainedBy registry old (grants_at (entry ∷ []) a) (request_of example))
present_alone registry old entry a found e h =
    subst (λ l. MatchOption found (¬ WidensBy registry old l) (λ example. (example.path ≡ entry.path) × IsGainedBy registry old l (request_of example))) (sym (for_it entry [] a e)) h

-- the grants of a ticket are those of an address
pub denied_there : (registry : Registry) (denied there : Grants) (path own_path : List ℕ) (grant own_grant : AllowGrant) (found : Option Example) → denied ≡ there → path ≡ own_path → grant ≡ own_grant
    → MatchOption found (¬ WidensBy registry denied ((path, grant) ∷ [])) (λ example. IsExampleBy registry denied (path, grant) example)
    → MatchOption found (¬ WidensBy registry there ((own_path, own_grant) ∷ [])) (λ example. IsExampleBy registry there (own_path, own_grant) example)
denied_there registry denied there path own_path grant own_grant found e p q h =
    subst (λ g. MatchOption found (¬ WidensBy registry g ((own_path, own_grant) ∷ [])) (λ example. IsExampleBy registry g (own_path, own_grant) example)) e
    (subst (λ x. MatchOption found (¬ WidensBy registry denied ((x, own_grant) ∷ [])) (λ example. IsExampleBy registry denied (x, own_grant) example)) p
    (subst (λ x. MatchOption found (¬ WidensBy registry denied ((path, x) ∷ [])) (λ example. IsExampleBy registry denied (path, x) example)) q h))
