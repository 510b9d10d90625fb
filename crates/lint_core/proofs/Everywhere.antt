-- What holds of each sampled ticket holds at every address.
use Rattle.std.proofs.Common.{◌≡◌, ◌≢◌, ℕ, ◌+◌, ◌<◌, zero, suc, List, [], ◌∷◌, ◌++◌, Bool, true, false, not, ◌&&◌, ◌||◌, Option, None, Some, MatchOption, map, filter, length, get_or, All, IsTrue, ◌↔◌, ◌⊎◌, inl, inr, refl, sym, ap, subst, ◌∙◌, arith}
use Rattle.std.specs.List.{Contains, list_any, slice_get}
use Rattle.std.proofs.lemmas.Bool.{false≢true}
use Rattle.std.proofs.lemmas.List.{get_or-map, length-map}
use Rattle.std.proofs.lemmas.List.Elements.{All-contains, All-contains_itself, All-head, All-map, All-weaker}
use Rattle.cap_grants.specs.declared.grant.AllowGrant.{AllowGrant}
use Rattle.grant_core.specs.Flat.{Flat}
use Rattle.network_core.specs.Address.{IsAddress}
use Rattle.network_core.specs.declared.address.Address.{Address}
use Rattle.rights_core.specs.Rights.{Rights, grants_at, ticket_at}
use Rattle.rights_core.specs.Samples.{DecideFor}
use Rattle.verdict_core.specs.Ticket.{Ticket}
use Rattle.verdict_core.specs.Verdict.{covers, is_covered, is_usable}
use Rattle.compare_core.proofs.Bools.{all_also, both, both_left, both_right}
use Rattle.lint_core.specs.Lint.{AllowsAll}
use Rattle.lint_core.specs.RightsLint.{CoversIn, IsFirstCoverIn, IsRedundantIn, NoneCovers, begins_with, is_part, part}
use Rattle.lint_core.specs.Sampled.{AreSampled}
use Rattle.lint_core.proofs.Allowed.{along, enough_around, through}

contains_map : (f : Address → Ticket) (xs : List Address) → All (λ x. Contains (map f xs) (f x)) xs
contains_map f xs =
    λ k d within.
    let same : length (map f xs) ≡ length xs = length-map xs f in
    subst (Contains (map f xs)) (get_or-map f xs k d (f d) within) (All-contains_itself (map f xs) k (f d) (omega arith))

-- tickets at addresses that decide for all addresses
pub sampled_at : (rights : Rights) (samples : List Address) (tickets : List Ticket) → DecideFor (rights ∷ []) samples → tickets ≡ map (ticket_at rights) samples → AreSampled rights tickets
sampled_at rights samples tickets decides are =
    subst (AreSampled rights) (sym are) (record {
      are =
          All-map (λ (t : Ticket). (a : Address) × IsAddress a × (t.grants ≡ grants_at rights.grants a)) (ticket_at rights) samples
          (All-weaker IsAddress (λ (s : Address). (a : Address) × IsAddress a × (grants_at rights.grants s ≡ grants_at rights.grants a)) (λ s is. (s, is, refl)) samples decides.are_addresses);
      stand = λ a is_address.
          let sample = decides.stand a is_address in
          let alike : ticket_at rights sample.0 ≡ ticket_at rights a = All-head (λ r. ticket_at r sample.0 ≡ ticket_at r a) rights [] sample.2 in
          (ticket_at rights sample.0, All-contains (λ s. Contains (map (ticket_at rights) samples) (ticket_at rights s)) samples sample.0 (contains_map (ticket_at rights) samples) sample.1, ap (λ t. t.grants) alike);
    })

pub everywhere : (rights : Rights) (tickets : List Ticket) → AreSampled rights tickets → (P : Flat → Type 0) → All (λ t. P t.grants) tickets → (a : Address) → IsAddress a → P (grants_at rights.grants a)
everywhere rights tickets sampled P all a is_address =
    let found = sampled.stand a is_address in
    subst P found.2 (All-contains (λ t. P t.grants) tickets found.0 all found.1)

pub not_everywhere : (rights : Rights) (tickets : List Ticket) → AreSampled rights tickets → (P : Flat → Type 0) → (i : ℕ) (t : Ticket) → i < length tickets → t ≡ get_or tickets i t → ¬ P t.grants
    → ¬ ((a : Address) → IsAddress a → P (grants_at rights.grants a))
not_everywhere rights tickets sampled P i t within is fails all =
    let at = sampled.are i t within in
    fails (subst P (sym at.2 ∙ ap (λ x. x.grants) (sym is)) (all at.0 at.1))

-- ---- a part of the grants allows no more

either : (a b c : Bool) → (b ≡ true → c ≡ true) → (a || b) ≡ true → (a || c) ≡ true
either true b c more h = refl
either false b c more h = more h

sooner : (a b : Bool) → a ≡ true → (a || b) ≡ true
sooner true b h = refl
sooner false b h = absurd (false≢true h)

or_cases : (a b : Bool) → (a || b) ≡ true → (a ≡ true) ⊎ (b ≡ true)
or_cases true b h = inl refl
or_cases false b h = inr h

later : (a b : Bool) → b ≡ true → (a || b) ≡ true
later true b h = refl
later false b h = h

kept_step : (p test : List ℕ × AllowGrant → Bool) (x : List ℕ × AllowGrant) (xs : Flat) (b : Bool) → p x ≡ b → list_any test (filter p (x ∷ xs)) ≡ true
    → (list_any test (filter p xs) ≡ true → list_any test xs ≡ true) → list_any test (x ∷ xs) ≡ true
kept_step p test x xs true e h more = either (test x) (list_any test (filter p xs)) (list_any test xs) more (rw e at h)
kept_step p test x xs false e h more = later (test x) (list_any test xs) (more (rw e at h))

any_kept : (p test : List ℕ × AllowGrant → Bool) (xs : Flat) → list_any test (filter p xs) ≡ true → list_any test xs ≡ true
any_kept p test [] h = h
any_kept p test (x ∷ xs) h = kept_step p test x xs (p x) refl h (any_kept p test xs)

pub fewer : (own : Bool) (number : ℕ) (grants : Flat) → AllowsAll grants (part own number grants)
fewer own number grants target needs asked h =
    let few : Flat = part own number grants in
    both _ _ (any_kept (is_part own number) (λ entry. is_usable entry.1 target needs) grants (both_left _ _ h))
    (all_also (is_covered few target needs) (is_covered grants target needs) needs.calls
    (λ call. any_kept (is_part own number) (λ entry. is_usable entry.1 target needs && covers entry.1.access call) grants) (both_right (list_any (λ entry. is_usable entry.1 target needs) few) _ h))

-- ---- one grant and the others are all

parted_step : (number : ℕ) (test : List ℕ × AllowGrant → Bool) (x : List ℕ × AllowGrant) (xs : Flat) (b : Bool) → begins_with number x.0 ≡ b → (test x || list_any test xs) ≡ true
    → (list_any test xs ≡ true → (list_any test (part false number xs) ≡ true) ⊎ (list_any test (part true number xs) ≡ true))
    → (list_any test (part false number (x ∷ xs)) ≡ true) ⊎ (list_any test (part true number (x ∷ xs)) ≡ true)
parted_step number test x xs true e h more = rw e (elim (or_cases (test x) (list_any test xs) h) [
  | inl here ↦ inr (sooner (test x) (list_any test (part true number xs)) here)
  | inr there ↦ elim (more there) [ inl other ↦ inl other | inr own ↦ inr (later (test x) (list_any test (part true number xs)) own) ]
])
parted_step number test x xs false e h more = rw e (elim (or_cases (test x) (list_any test xs) h) [
  | inl here ↦ inl (sooner (test x) (list_any test (part false number xs)) here)
  | inr there ↦ elim (more there) [ inl other ↦ inl (later (test x) (list_any test (part false number xs)) other) | inr own ↦ inr own ]
])

any_parted : (number : ℕ) (test : List ℕ × AllowGrant → Bool) (grants : Flat) → list_any test grants ≡ true
    → (list_any test (part false number grants) ≡ true) ⊎ (list_any test (part true number grants) ≡ true)
any_parted number test [] h = inl h
any_parted number test (x ∷ xs) h = parted_step number test x xs (begins_with number x.0) refl h (any_parted number test xs)

-- what an answer on one grant says of all
pub others_answer : (number : ℕ) (grants rest own : Flat) (all : Bool) → (IsTrue all ↔ AllowsAll rest own) → rest ≡ part false number grants → own ≡ part true number grants
    → IsTrue all ↔ AllowsAll (part false number grants) grants
others_answer number grants rest own all answer p q =
    let few : Flat = part false number grants in
    let alone : Flat = part true number grants in (
      λ yes. enough_around few alone grants (λ test. any_parted number (λ entry. test entry.1) grants) (along few alone rest own p q (answer.0 yes)),
      λ enough. answer.1 (along rest own few alone (sym p) (sym q) (through few grants alone enough (fewer true number grants))),
    )

-- ---- redundant or not

pub redundant : (rights : Rights) (tickets : List Ticket) (number : ℕ) → AreSampled rights tickets → All (λ t. AllowsAll (part false number t.grants) t.grants) tickets → IsRedundantIn rights number
redundant rights tickets number sampled all a is_address =
    (everywhere rights tickets sampled (λ grants. AllowsAll (part false number grants) grants) all a is_address, fewer false number (grants_at rights.grants a))

pub not_redundant : (rights : Rights) (tickets : List Ticket) (number : ℕ) → AreSampled rights tickets → (i : ℕ) (t : Ticket) → i < length tickets → t ≡ get_or tickets i t → ¬ AllowsAll (part false number t.grants) t.grants → ¬ IsRedundantIn rights number
not_redundant rights tickets number sampled i t within is fails all =
    not_everywhere rights tickets sampled (λ grants. AllowsAll (part false number grants) grants) i t within is fails (λ a is_address. (all a is_address).0)

pub covering : (rights : Rights) (tickets : List Ticket) (number other : ℕ) → AreSampled rights tickets → other ≢ number → All (λ t. AllowsAll (part true other t.grants) (part true number t.grants)) tickets → CoversIn rights number other
covering rights tickets number other sampled apart all =
    (apart, everywhere rights tickets sampled (λ grants. AllowsAll (part true other grants) (part true number grants)) all)

pub not_covering : (rights : Rights) (tickets : List Ticket) (number other : ℕ) → AreSampled rights tickets → (i : ℕ) (t : Ticket) → i < length tickets → t ≡ get_or tickets i t → ¬ AllowsAll (part true other t.grants) (part true number t.grants) → ¬ CoversIn rights number other
not_covering rights tickets number other sampled i t within is fails cover =
    not_everywhere rights tickets sampled (λ grants. AllowsAll (part true other grants) (part true number grants)) i t within is fails cover.1

pub said_no : (P : Type 0) → ¬ P → (IsTrue false ↔ P)
said_no P fails = (λ e. absurd (false≢true e), λ p. absurd (fails p))

pub said_yes : (P : Type 0) → P → (IsTrue true ↔ P)
said_yes P holds = (λ e. holds, λ p. refl)

-- one more is answered
pub each_next : {X : Type 0} (P : ℕ → X → Type 0) (all : List X) (next : X) → ((place : ℕ) (found : X) → slice_get all place ≡ Some found → P place found) → P (length all) next
    → (place : ℕ) (found : X) → slice_get (all ++ next ∷ []) place ≡ Some found → P place found
each_next {X} P [] next so_far here zero found at = subst (P 0) (some_same at) here
  where
    some_same : {a b : X} → Some a ≡ Some b → a ≡ b
    some_same e = cc
each_next P [] next so_far here (suc place) found at = absurd (cc)
each_next P (first ∷ all) next so_far here zero found at = so_far zero found at
each_next P (first ∷ all) next so_far here (suc place) found at =
    each_next (λ k. P (suc k)) all next (λ k other e. so_far (suc k) other e) here place found at

-- what the look-up of a cover says
pub none_covers : (rights : Rights) (count number : ℕ) (found : Option ℕ)
    → MatchOption found (NoneCovers rights number count) (IsFirstCoverIn rights count number) → found ≡ None → NoneCovers rights number count
none_covers rights count number None answer is = answer
none_covers rights count number (Some place) answer is = absurd (cc)

pub first_covers : (rights : Rights) (count number : ℕ) (found : Option ℕ) (place : ℕ)
    → MatchOption found (NoneCovers rights number count) (IsFirstCoverIn rights count number) → found ≡ Some place → IsFirstCoverIn rights count number place
first_covers rights count number None place answer is = absurd (cc)
first_covers rights count number (Some other) place answer is = subst (IsFirstCoverIn rights count number) (some_same is) answer
  where
    some_same : {X : Type 0} {a b : X} → Some a ≡ Some b → a ≡ b
    some_same e = cc
