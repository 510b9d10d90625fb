-- The answers of the grants, one after another, and what they say of the whole ticket.
use Rattle.std.proofs.Common.{◌≡◌, ℕ, zero, suc, ◌+◌, ◌<◌, ◌≤◌, List, [], ◌∷◌, ◌++◌, Bool, true, false, ◌&&◌, ◌||◌, Option, Some, None, slice_get, get_or, take, length, refl, sym, ap, subst, ◌∙◌, ◌⊎◌, inl, inr, arith}
use Rattle.std.specs.Option.{option_to_list, MatchOption}
use Rattle.std.specs.List.{list_any, All}
use Rattle.std.proofs.lemmas.Grind.{take_at_read}
use Rattle.std.proofs.lemmas.List.{take_all}
use Rattle.std.proofs.lemmas.List.Elements.{All-contains, All-nil}
use Rattle.std.proofs.lemmas.Option.{slice_get-get_or}
use Rattle.cap_grants.specs.declared.grant.AllowGrant.{AllowGrant}
use Rattle.request_types.specs.Target.{Target}
use Rattle.verdict_core.specs.Verdict.{is_usable, is_covered, covers, grants_allow}
use Rattle.request_types.specs.declared.request.Needs.{Needs}
use Rattle.request_types.specs.declared.request.ClassCall.{ClassCall}
use Rattle.compare_core.specs.declared.comparing.Example.{Example}
use Rattle.compare_core.specs.Widening.{AreNeeded, CanBeAsked, IsAskedBy, IsCallBy, IsGainedBy, WidensBy, IsExampleBy, AnswersBy, request_of}
use Rattle.compare_core.specs.declared.registry.Registry.{Registry}
use Rattle.compare_core.specs.Fresh.{IsBestTarget}
use Rattle.compare_core.specs.Questions.{AreEnough, IsListed, IsShownBy, asks, listing_at, shows}
use Rattle.compare_core.proofs.Asked.{all_slice_get, nothing_gained}
use Rattle.compare_core.proofs.Bools.{both_left, both_right, both, negated, any_at, all_also}
use Rattle.compare_core.proofs.Moves.{calling, Shown, one_grant_shows}

abbrev pub Grants : Type 0
Grants = List (List ℕ × AllowGrant)

-- one more grant, which by itself widens nothing
pub answers_none : (registry : Registry) (old new : Grants) (examples : List Example) (entry : List ℕ × AllowGrant) → AnswersBy registry old new examples → ¬ WidensBy registry old (entry ∷ []) → AnswersBy registry old (new ++ entry ∷ []) examples
answers_none registry old [] [] entry h none = (none, tt)
answers_none registry old [] (e ∷ es) entry h none = absurd h
answers_none registry old (g ∷ new) [] entry h none = (h.0, answers_none registry old new [] entry h.1 none)
answers_none registry old (g ∷ new) (e ∷ es) entry h none =
    elim h [ inl shown ↦ inl (shown.0, answers_none registry old new es entry shown.1 none) | inr silent ↦ inr (silent.0, answers_none registry old new (e ∷ es) entry silent.1 none) ]

-- one more grant, with an example
pub answers_some : (registry : Registry) (old new : Grants) (examples : List Example) (entry : List ℕ × AllowGrant) (example : Example) → AnswersBy registry old new examples → IsExampleBy registry old entry example
    → AnswersBy registry old (new ++ entry ∷ []) (examples ++ example ∷ [])
answers_some registry old [] [] entry example h some = inl (some, tt)
answers_some registry old [] (e ∷ es) entry example h some = absurd h
answers_some registry old (g ∷ new) [] entry example h some = inr (h.0, answers_some registry old new [] entry example h.1 some)
answers_some registry old (g ∷ new) (e ∷ es) entry example h some =
    elim h [ inl shown ↦ inl (shown.0, answers_some registry old new es entry example shown.1 some) | inr silent ↦ inr (silent.0, answers_some registry old new (e ∷ es) entry example silent.1 some) ]

-- each example is one of a grant
example_from : (registry : Registry) (old new : Grants) (examples : List Example) → AnswersBy registry old new examples → (k : ℕ) (example : Example) → slice_get examples k ≡ Some example
    → (i : ℕ) × ((entry : List ℕ × AllowGrant) × ((slice_get new i ≡ Some entry) × IsExampleBy registry old entry example))
example_from registry old [] [] h k example at = absurd (cc)
example_from registry old [] (e ∷ es) h k example at = absurd h
example_from registry old (g ∷ new) [] h k example at = absurd (cc)
example_from registry old (g ∷ new) (e ∷ es) h k example at =
    by h k at (λ shown j q. example_from registry old new es shown j example q) (λ silent. example_from registry old new (e ∷ es) silent k example at)
  where
    later : ((i : ℕ) × ((entry : List ℕ × AllowGrant) × ((slice_get new i ≡ Some entry) × IsExampleBy registry old entry example)))
        → (i : ℕ) × ((entry : List ℕ × AllowGrant) × ((slice_get (g ∷ new) i ≡ Some entry) × IsExampleBy registry old entry example))
    later found = (suc found.0, (found.1.0, found.1.1))

    some_same : {X : Type 0} {a b : X} → Some a ≡ Some b → a ≡ b
    some_same q = cc

    by : (IsExampleBy registry old g e × AnswersBy registry old new es) ⊎ ((¬ WidensBy registry old (g ∷ [])) × AnswersBy registry old new (e ∷ es)) → (j : ℕ) → slice_get (e ∷ es) j ≡ Some example
        → (AnswersBy registry old new es → (n : ℕ) → slice_get es n ≡ Some example → (i : ℕ) × ((entry : List ℕ × AllowGrant) × ((slice_get new i ≡ Some entry) × IsExampleBy registry old entry example)))
        → (AnswersBy registry old new (e ∷ es) → (i : ℕ) × ((entry : List ℕ × AllowGrant) × ((slice_get new i ≡ Some entry) × IsExampleBy registry old entry example)))
        → (i : ℕ) × ((entry : List ℕ × AllowGrant) × ((slice_get (g ∷ new) i ≡ Some entry) × IsExampleBy registry old entry example))
    by (inl shown) zero q first rest = (0, (g, (refl, subst (IsExampleBy registry old g) (some_same q) shown.0)))
    by (inl shown) (suc j) q first rest = later (first shown.1 j q)
    by (inr silent) j q first rest = later (rest silent.1)

-- what one grant allows, each ticket that has it allows
pub allowed_among : (grants : Grants) (i : ℕ) (entry : List ℕ × AllowGrant) (target : Target) (needs : Needs) → slice_get grants i ≡ Some entry → grants_allow (entry ∷ []) target needs ≡ true → grants_allow grants target needs ≡ true
allowed_among grants i entry target needs at h =
    both _ _
    (among (λ e. is_usable e.1 target needs) (both_left _ _ h))
    (all_also (is_covered (entry ∷ []) target needs) (is_covered grants target needs) needs.calls (λ call. among (λ e. is_usable e.1 target needs && covers e.1.access call)) (both_right (list_any (λ e. is_usable e.1 target needs) (entry ∷ [])) _ h))
  where
    alone : (b : Bool) → (b || false) ≡ true → b ≡ true
    alone true k = refl
    alone false k = k

    among : (p : List ℕ × AllowGrant → Bool) → list_any p (entry ∷ []) ≡ true → list_any p grants ≡ true
    among p k = any_at p grants i entry at (alone (p entry) k)

gained_at : (registry : Registry) (old new : Grants) (examples : List Example) → AnswersBy registry old new examples → (k : ℕ) (example : Example) → slice_get examples k ≡ Some example → IsGainedBy registry old new (request_of example)
gained_at registry old new examples h k example at =
    let found = example_from registry old new examples h k example at in
    let shown = found.1.1.1.1 in
    (shown.0, allowed_among new found.0 found.1.0 example.target example.needs found.1.1.0 shown.1, shown.2)

-- each example is gained by the whole ticket
pub all_gained : (registry : Registry) (old new : Grants) (examples : List Example) → AnswersBy registry old new examples → All (λ example. IsGainedBy registry old new (request_of example)) examples
all_gained registry old new examples h k d l = gained_at registry old new examples h k (get_or examples k d) (slice_get-get_or examples k d l)

-- without examples no grant widens anything
silent_at : (registry : Registry) (old new : Grants) → AnswersBy registry old new [] → (i : ℕ) (entry : List ℕ × AllowGrant) → slice_get new i ≡ Some entry → ¬ WidensBy registry old (entry ∷ [])
silent_at registry old [] h i entry at = absurd (cc)
silent_at registry old (g ∷ new) h zero entry at = subst (λ e. ¬ WidensBy registry old (e ∷ [])) (some_same at) h.0
  where
    some_same : {X : Type 0} {a b : X} → Some a ≡ Some b → a ≡ b
    some_same q = cc
silent_at registry old (g ∷ new) h (suc i) entry at = silent_at registry old new h.1 i entry at

-- one call of those asked for is asked for
asked_one : (registry : Registry) (needs : Needs) (call : Option ClassCall) → IsAskedBy registry needs → ((one : ClassCall) → call ≡ Some one → (i : ℕ) × (slice_get needs.calls i ≡ Some one)) → IsAskedBy registry (calling needs (option_to_list call))
asked_one registry needs None asked small k d l = absurd (omega arith)
asked_one registry needs (Some one) asked small zero d l = let found = small one refl in all_slice_get (IsCallBy registry) needs.calls found.0 one asked found.1
asked_one registry needs (Some one) asked small (suc k) d l = absurd (omega arith)

at_most_one : (call : Option ClassCall) → length (option_to_list call) ≤ 16
at_most_one None = omega arith
at_most_one (Some one) = omega arith

-- of no calls none is asked for
no_call : (calls : List ClassCall) (call : Option ClassCall) → calls ≡ [] → ((one : ClassCall) → call ≡ Some one → (i : ℕ) × (slice_get calls i ≡ Some one)) → option_to_list call ≡ []
no_call calls None none small = refl
no_call calls (Some one) none small = let found = small one refl in nowhere found.0 (ap (λ l. slice_get l found.0) (sym none) ∙ found.1)
  where
    nowhere : (i : ℕ) → slice_get [] i ≡ Some one → option_to_list (Some one) ≡ []
    nowhere i h = absurd (cc)

pub nothing_widens : (registry : Registry) (old new : Grants) → AnswersBy registry old new [] → ¬ WidensBy registry old new
nothing_widens registry old new h gained = by (one_grant_shows old new gained.0.target gained.0.needs gained.1.0.needs.something gained.1.1 gained.1.2)
  where
    by : Shown old new gained.0.target gained.0.needs → ⊥
    by shown =
        silent_at registry old new h shown.index shown.entry shown.at (
          record { target = gained.0.target; needs = calling gained.0.needs (option_to_list shown.call) },
          (
            record {
              tags = gained.1.0.tags;
              needs = record { calls = asked_one registry gained.0.needs shown.call gained.1.0.needs.calls shown.small; few = at_most_one shown.call; something = shown.something };
              listing = λ empty. ((gained.1.0.listing empty).0, no_call gained.0.needs.calls shown.call (gained.1.0.listing empty).1 shown.small);
            },
            shown.allowed,
            shown.denied,
          ),
        )

-- and with one the ticket widens something
pub no_examples : (registry : Registry) (old new : Grants) (examples : List Example) → AnswersBy registry old new examples → ¬ WidensBy registry old new → examples ≡ []
no_examples registry old new [] h none = refl
no_examples registry old new (e ∷ es) h none = absurd (none (request_of e, gained_at registry old new (e ∷ es) h 0 e refl))

-- what the questions at a grant's best target say of it

pub silent_grant : (registry : Registry) (old new : Grants) (entry : List ℕ × AllowGrant) (target : Target) (asked : List Needs) (found : Option Needs) → new ≡ entry ∷ [] → AreEnough registry entry.1 old asked → IsBestTarget entry.1 old target
    → IsShownBy old new target asked found → found ≡ None → shows old new (listing_at target) (asks true false []) ≡ false → ¬ WidensBy registry old (entry ∷ [])
silent_grant registry old new entry target asked None is enough best h none unlisted =
    nothing_gained registry old entry target asked enough best (ap (λ alone. list_any (shows old alone target) asked) (sym is) ∙ h) (ap (λ alone. shows old alone (listing_at target) (asks true false [])) (sym is) ∙ unlisted)
silent_grant registry old new entry target asked (Some needs) is enough best h none unlisted = absurd (cc)

pub shown_grant : (registry : Registry) (old new : Grants) (entry : List ℕ × AllowGrant) (path : List ℕ) (target : Target) (asked : List Needs) (found : Option Needs) (needs : Needs) → new ≡ entry ∷ [] → path ≡ entry.0
    → AreEnough registry entry.1 old asked → IsBestTarget entry.1 old target → IsShownBy old new target asked found → found ≡ Some needs → IsExampleBy registry old entry (record { path = path; target = target; needs = needs })
shown_grant registry old new entry path target asked None needs is same enough best h some = absurd (cc)
shown_grant registry old new entry path target asked (Some m) needs is same enough best h some =
    let equal : m ≡ needs = cc in
    let shown : shows old (entry ∷ []) target needs ≡ true = (λ i. shows old (sym is i) target (sym equal i)) ∙ h.1 in
    let asked_for : CanBeAsked registry (record { target = target; needs = needs }) = record {
      tags = best.possible;
      needs = subst (AreNeeded registry) equal (All-contains (AreNeeded registry) asked m enough.asked h.0);
      listing = λ empty. absurd (best.object.1 empty);
    } in
    (same, (asked_for, both_left _ _ shown, negated (grants_allow old target needs) (both_right (grants_allow (entry ∷ []) target needs) _ shown)))

-- an example of a listing
pub listed_grant : (registry : Registry) (old new : Grants) (entry : List ℕ × AllowGrant) (path : List ℕ) (target : Target) (example : Example) → new ≡ entry ∷ [] → path ≡ entry.0
    → IsBestTarget entry.1 old target → IsListed old new path target (Some example) → IsExampleBy registry old entry example
listed_grant registry old new entry path target example is same best h =
    let place = listing_at target in
    let needs = asks true false [] in
    let shown : shows old (entry ∷ []) place needs ≡ true = ap (λ alone. shows old alone place needs) (sym is) ∙ h.1 in
    let asked_for : CanBeAsked registry (record { target = place; needs = needs }) = record {
      tags = best.possible;
      needs = record { calls = All-nil (IsCallBy registry); few = omega arith; something = refl };
      listing = λ empty. (refl, refl);
    } in
    subst (IsExampleBy registry old entry) (sym h.0)
    (same, (asked_for, both_left _ _ shown, negated (grants_allow old place needs) (both_right (grants_allow (entry ∷ []) place needs) _ shown)))

-- what is answered of a grant where no question shows anything at its best target
pub listed_or_silent : (registry : Registry) (old new : Grants) (entry : List ℕ × AllowGrant) (path : List ℕ) (target : Target) (asked : List Needs) (shown : Option Needs) (found : Option Example) → new ≡ entry ∷ [] → path ≡ entry.0
    → AreEnough registry entry.1 old asked → IsBestTarget entry.1 old target → IsShownBy old new target asked shown → shown ≡ None → IsListed old new path target found
    → MatchOption found (¬ WidensBy registry old (entry ∷ [])) (IsExampleBy registry old entry)
listed_or_silent registry old new entry path target asked shown None is same enough best h none unlisted = silent_grant registry old new entry target asked shown is enough best h none unlisted
listed_or_silent registry old new entry path target asked shown (Some example) is same enough best h none listed = listed_grant registry old new entry path target example is same best listed

pub append_nil : (l : List Example) → l ++ [] ≡ l
append_nil [] = refl
append_nil (x ∷ xs) = ap (λ l. x ∷ l) (append_nil xs)

-- one more grant, step by step
pub answers_step : (registry : Registry) (old grants : Grants) (i : ℕ) (entry : List ℕ × AllowGrant) (examples : List Example) (found : Option Example) → i < length grants → entry ≡ get_or grants i entry
    → AnswersBy registry old (take i grants) examples → MatchOption found (¬ WidensBy registry old (entry ∷ [])) (IsExampleBy registry old entry) → AnswersBy registry old (take (i + 1) grants) (examples ++ option_to_list found)
answers_step registry old grants i entry examples found h at so_far answer =
    subst (λ front. AnswersBy registry old front (examples ++ option_to_list found)) (ap (λ e. take i grants ++ e ∷ []) at ∙ sym ((take_at_read grants i entry h).1)) (more found answer)
  where
    more : (o : Option Example) → MatchOption o (¬ WidensBy registry old (entry ∷ [])) (IsExampleBy registry old entry) → AnswersBy registry old (take i grants ++ entry ∷ []) (examples ++ option_to_list o)
    more None none = subst (AnswersBy registry old (take i grants ++ entry ∷ [])) (sym (append_nil examples)) (answers_none registry old (take i grants) examples entry so_far none)
    more (Some example) some = answers_some registry old (take i grants) examples entry example so_far some

-- the answers of all grants
pub answers_whole : (registry : Registry) (old new grants : Grants) (i : ℕ) (examples : List Example) → grants ≡ new → length grants ≤ i → AnswersBy registry old (take i grants) examples → AnswersBy registry old new examples
answers_whole registry old new grants i examples same past h = subst (λ front. AnswersBy registry old front examples) (take_all i grants past ∙ same) h
