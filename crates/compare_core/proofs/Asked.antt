-- The needs that are tried are enough.
use Rattle.std.proofs.Common.{◌≡◌, ◌≢◌, ◌||◌, arith, ℕ, suc, zero, ◌<◌, List, [], ◌∷◌, ◌++◌, map, length, Bool, true, false, not, Option, Some, None, slice_get, refl, sym, ap, subst, unwrap_or, ◌∙◌, lit<}
use Rattle.std.proofs.lemmas.Option.{slice_get_within, slice_get_read, unwrap_or-slice_get}
use Rattle.std.proofs.lemmas.List.{length-map, get_or-map}
use Rattle.std.proofs.lemmas.List.Elements.{All-nil, All-cons, All-append, All-map, All-weaker, Contains-append_left, Contains-append_right}
use Rattle.std.specs.Option.{option_to_list}
use Rattle.std.specs.List.{list_any, All, Contains}
use Rattle.std.proofs.lemmas.Bool.{false≢true}
use Rattle.cap_grants.specs.declared.grant.AllowGrant.{AllowGrant}
use Rattle.request_types.specs.Target.{Target}
use Rattle.verdict_core.specs.Verdict.{matches, grants_allow}
use Rattle.request_types.specs.declared.request.Needs.{Needs}
use Rattle.request_types.specs.declared.request.ClassCall.{ClassCall}
use Rattle.compare_core.specs.Fresh.{IsBestTarget}
use Rattle.compare_core.specs.Calls.{AreCallsFor}
use Rattle.compare_core.specs.Questions.{asks, asks_one, questions, AreEnough, listing_at, shows}
use Rattle.compare_core.specs.Widening.{AreNeeded, IsCallBy, WidensBy, asks_something}
use Rattle.compare_core.specs.declared.registry.Registry.{Registry}
use Rattle.compare_core.proofs.Bools.{both, fails, none_at}
use Rattle.compare_core.proofs.Moves.{allowed_there, alone_there, matched_alone, covered_alone, stand_allowed, stand_denied, calling, Shown, one_grant_shows, with_call}
use Rattle.compare_core.proofs.Targets.{best_moves, best_there, listing_moves, listing_there}

some_same : {X : Type 0} {a b : X} → Some a ≡ Some b → a ≡ b
some_same e = cc

-- lists of needs with one call each

asked_one : (registry : Registry) (reads writes : Bool) (call : ClassCall) → IsCallBy registry call → AreNeeded registry (asks_one reads writes call)
asked_one registry reads writes call h = record { calls = All-cons (IsCallBy registry) call [] h (All-nil (IsCallBy registry)); few = omega arith; something = with_call reads writes }

all_asked : (registry : Registry) (reads writes : Bool) (calls : List ClassCall) → All (IsCallBy registry) calls → All (AreNeeded registry) (map (asks_one reads writes) calls)
all_asked registry reads writes calls all =
    All-map (AreNeeded registry) (asks_one reads writes) calls (All-weaker (IsCallBy registry) (λ call. AreNeeded registry (asks_one reads writes call)) (asked_one registry reads writes) calls all)

one_in : (reads writes : Bool) (calls : List ClassCall) (call : ClassCall) → Contains calls call → Contains (map (asks_one reads writes) calls) (asks_one reads writes call)
one_in reads writes calls call h = (
  h.0,
  subst (λ n. h.0 < n) (sym (length-map calls (asks_one reads writes))) h.1,
  get_or-map (asks_one reads writes) calls h.0 call (asks_one reads writes call) h.1 ∙ ap (asks_one reads writes) h.2,
)

bare_asked : (registry : Registry) (reads writes : Bool) → (reads || writes) ≡ true → AreNeeded registry (asks reads writes [])
bare_asked registry true writes h = record { calls = All-nil (IsCallBy registry); few = omega arith; something = refl }
bare_asked registry false true h = record { calls = All-nil (IsCallBy registry); few = omega arith; something = refl }
bare_asked registry false false h = absurd (false≢true h)

-- the questions, list by list
both_flags : List ClassCall → List Needs
both_flags calls = map (asks_one true true) calls

writing : List ClassCall → List Needs
writing calls = map (asks_one false true) calls ++ both_flags calls

reading : List ClassCall → List Needs
reading calls = map (asks_one true false) calls ++ writing calls

calling_alone : List ClassCall → List Needs
calling_alone calls = map (asks_one false false) calls ++ reading calls

plain : List Needs
plain = asks true false [] ∷ asks false true [] ∷ asks true true [] ∷ []

questions_parts : (calls : List ClassCall) → questions calls ≡ plain ++ calling_alone calls
unfolding plain calling_alone reading writing both_flags
questions_parts calls = refl

plain_asked : (registry : Registry) → All (AreNeeded registry) plain
unfolding plain
plain_asked registry =
    All-cons (AreNeeded registry) (asks true false []) (asks false true [] ∷ asks true true [] ∷ []) (bare_asked registry true false refl)
    (All-cons (AreNeeded registry) (asks false true []) (asks true true [] ∷ []) (bare_asked registry false true refl)
    (All-cons (AreNeeded registry) (asks true true []) [] (bare_asked registry true true refl) (All-nil (AreNeeded registry))))

parts_asked : (registry : Registry) (calls : List ClassCall) → All (IsCallBy registry) calls → All (AreNeeded registry) (plain ++ calling_alone calls)
unfolding calling_alone reading writing both_flags
parts_asked registry calls all =
    All-append (AreNeeded registry) plain (calling_alone calls) (plain_asked registry)
    (All-append (AreNeeded registry) (map (asks_one false false) calls) (reading calls) (all_asked registry false false calls all)
    (All-append (AreNeeded registry) (map (asks_one true false) calls) (writing calls) (all_asked registry true false calls all)
    (All-append (AreNeeded registry) (map (asks_one false true) calls) (both_flags calls) (all_asked registry false true calls all)
    (all_asked registry true true calls all))))

behind : (xs ys : List Needs) (needs : Needs) → Contains ys needs → Contains (xs ++ ys) needs
behind xs ys needs h = Contains-append_right xs ys needs h

parts_bare : (calls : List ClassCall) (reads writes : Bool) → (reads || writes) ≡ true → Contains (plain ++ calling_alone calls) (asks reads writes [])
unfolding plain calling_alone reading writing both_flags
parts_bare calls true false h = Contains-append_left plain (calling_alone calls) (asks true false []) (0, lit< tt, refl)
parts_bare calls false true h = Contains-append_left plain (calling_alone calls) (asks false true []) (1, lit< tt, refl)
parts_bare calls true true h = Contains-append_left plain (calling_alone calls) (asks true true []) (2, lit< tt, refl)
parts_bare calls false false h = absurd (false≢true h)

parts_whole : (calls : List ClassCall) (one : ClassCall) → Contains calls one → (reads writes : Bool) → Contains (plain ++ calling_alone calls) (asks_one reads writes one)
unfolding plain calling_alone reading writing both_flags
parts_whole calls one h false false =
    let needs = asks_one false false one in
    behind plain (calling_alone calls) needs (Contains-append_left (map (asks_one false false) calls) (reading calls) needs (one_in false false calls one h))
parts_whole calls one h true false =
    let needs = asks_one true false one in
    behind plain (calling_alone calls) needs (behind (map (asks_one false false) calls) (reading calls) needs
    (Contains-append_left (map (asks_one true false) calls) (writing calls) needs (one_in true false calls one h)))
parts_whole calls one h false true =
    let needs = asks_one false true one in
    behind plain (calling_alone calls) needs (behind (map (asks_one false false) calls) (reading calls) needs (behind (map (asks_one true false) calls) (writing calls) needs
    (Contains-append_left (map (asks_one false true) calls) (both_flags calls) needs (one_in false true calls one h))))
parts_whole calls one h true true =
    let needs = asks_one true true one in
    behind plain (calling_alone calls) needs (behind (map (asks_one false false) calls) (reading calls) needs (behind (map (asks_one true false) calls) (writing calls) needs
    (behind (map (asks_one false true) calls) (both_flags calls) needs (one_in true true calls one h))))

-- needs with at most one of the calls that are tried for a grant are enough
enough : (registry : Registry) (g : AllowGrant) (old : List (List ℕ × AllowGrant)) (calls : List ClassCall) → AreCallsFor registry g old calls → AreEnough registry g old (questions calls)
enough registry g old calls for =
    subst (AreEnough registry g old) (sym (questions_parts calls)) (record {
      asked = parts_asked registry calls for.asked;
      bare = parts_bare calls;
      whole = λ call may covered. let found = for.whole call may covered in (found.0, found.1, parts_whole calls found.0 found.2);
    })

pub enough_questions : (registry : Registry) (g : AllowGrant) (old : List (List ℕ × AllowGrant)) (asked : List Needs) (calls : List ClassCall) → asked ≡ questions calls
    → AreCallsFor registry g old calls → AreEnough registry g old asked
enough_questions registry g old asked calls is for = subst (AreEnough registry g old) (sym is) (enough registry g old calls for)

denies : (b : Bool) → b ≡ false → not b ≡ true
denies true h = absurd (false≢true (sym h))
denies false h = refl

pub all_slice_get : {X : Type 0} (P : X → Type 0) (xs : List X) (i : ℕ) (x : X) → All P xs → slice_get xs i ≡ Some x → P x
all_slice_get P xs i x all at = subst P (sym (unwrap_or-slice_get xs i x) ∙ ap (λ o. unwrap_or o x) at) (all i x (slice_get_within xs i x at))

-- what is shown at one target, is shown at another that the grant matches, and at which old allows no more
moved : (old : List (List ℕ × AllowGrant)) (entry : List ℕ × AllowGrant) (here there : Target) (needs : Needs) → matches entry.1 there ≡ true
    → ((i : ℕ) (e : List ℕ × AllowGrant) → slice_get old i ≡ Some e → matches e.1 there ≡ true → matches e.1 here ≡ true)
    → grants_allow (entry ∷ []) here needs ≡ true → grants_allow old here needs ≡ false → shows old (entry ∷ []) there needs ≡ true
moved old entry here there needs there_too moves allowed denied =
    both _ _
    (alone_there entry here there needs there_too allowed)
    (denies (grants_allow old there needs) (fails _ (λ h. false≢true (sym denied ∙ allowed_there old there here needs moves h))))

reads_by : (reads writes : Bool) → writes ≡ false → (reads || (writes || false)) ≡ true → reads ≡ true
reads_by true writes w h = refl
reads_by false true w h = absurd (false≢true (sym w))
reads_by false false w h = h

-- needs of a listing are to read
listing_needs : (registry : Registry) (needs : Needs) → AreNeeded registry needs → needs.writes ≡ false → needs.calls ≡ [] → needs ≡ asks true false []
listing_needs registry needs needed writes calls =
    let reads : needs.reads ≡ true = reads_by needs.reads needs.writes writes (ap (λ l. asks_something (calling needs l)) (sym calls) ∙ needed.something) in
    λ i. record { reads = reads i; writes = writes i; calls = calls i }

-- Where no question shows it at the grant's best target, nor reading at the listing there, the grant widens nothing.
pub nothing_gained : (registry : Registry) (old : List (List ℕ × AllowGrant)) (entry : List ℕ × AllowGrant) (target : Target) (asked : List Needs) → AreEnough registry entry.1 old asked
    → IsBestTarget entry.1 old target → list_any (shows old (entry ∷ []) target) asked ≡ false → shows old (entry ∷ []) (listing_at target) (asks true false []) ≡ false → ¬ WidensBy registry old (entry ∷ [])
nothing_gained registry old entry target asked whole best none unlisted gained = by_name gained.0.target.object refl
  where
    only : (i : ℕ) {e : List ℕ × AllowGrant} → slice_get (entry ∷ []) i ≡ Some e → e ≡ entry
    only zero at = sym (some_same at)
    only (suc i) at = absurd (cc)

    silent : (needs : Needs) → Contains asked needs → shows old (entry ∷ []) target needs ≡ false
    silent needs found = none_at (shows old (entry ∷ []) target) asked found.0 needs none (slice_get_read asked (length asked) found.0 needs refl found.1 (sym found.2))

    nowhere : gained.0.target.object ≢ [] → (needs : Needs) → Contains asked needs → grants_allow (entry ∷ []) gained.0.target needs ≡ true → grants_allow old gained.0.target needs ≡ false → ⊥
    nowhere filled needs found allowed denied =
        false≢true (sym (silent needs found)
        ∙ moved old entry gained.0.target target needs (best_there entry.1 old target best) (best_moves entry.1 old target gained.0.target best filled (matched_alone entry gained.0.target needs allowed)) allowed denied)

    plainly : (reads writes : Bool) → (reads || (writes || false)) ≡ true → (reads || writes) ≡ true
    plainly true writes h = refl
    plainly false true h = refl
    plainly false false h = h

    by_call : gained.0.target.object ≢ [] → (call : Option ClassCall) → asks_something (calling gained.0.needs (option_to_list call)) ≡ true → ((one : ClassCall) → call ≡ Some one → IsCallBy registry one)
        → grants_allow (entry ∷ []) gained.0.target (calling gained.0.needs (option_to_list call)) ≡ true → grants_allow old gained.0.target (calling gained.0.needs (option_to_list call)) ≡ false → ⊥
    by_call filled None something may allowed denied = nowhere filled _ (whole.bare gained.0.needs.reads gained.0.needs.writes (plainly gained.0.needs.reads gained.0.needs.writes something)) allowed denied
    by_call filled (Some one) something may allowed denied =
        let found = whole.whole one (may one refl) (covered_alone entry gained.0.target gained.0.needs one allowed) in
        nowhere filled _ (found.2 gained.0.needs.reads gained.0.needs.writes)
        (stand_allowed entry gained.0.target gained.0.needs one found.0 found.1.0 allowed)
        (stand_denied entry.1 old gained.0.target gained.0.needs one found.0 found.1 denied)

    may_be_asked : (call : Option ClassCall) → ((one : ClassCall) → call ≡ Some one → (i : ℕ) × (slice_get gained.0.needs.calls i ≡ Some one)) → (one : ClassCall) → call ≡ Some one → IsCallBy registry one
    may_be_asked call small one is = let found = small one is in all_slice_get (IsCallBy registry) gained.0.needs.calls found.0 one gained.1.0.needs.calls found.1

    by_grant : gained.0.target.object ≢ [] → Shown old (entry ∷ []) gained.0.target gained.0.needs → ⊥
    by_grant filled shown =
        let same : shown.entry ≡ entry = only shown.index shown.at in
        by_call filled shown.call shown.something (may_be_asked shown.call shown.small)
        (ap (λ e. grants_allow (e ∷ []) gained.0.target (calling gained.0.needs (option_to_list shown.call))) (sym same) ∙ shown.allowed) shown.denied

    by_name : (object : List ℕ) → gained.0.target.object ≡ object → ⊥
    by_name [] empty =
        let plain_needs = gained.1.0.listing empty in
        let is : gained.0.needs ≡ asks true false [] = listing_needs registry gained.0.needs gained.1.0.needs plain_needs.0 plain_needs.1 in
        let allowed : grants_allow (entry ∷ []) gained.0.target (asks true false []) ≡ true = ap (grants_allow (entry ∷ []) gained.0.target) (sym is) ∙ gained.1.1 in
        let denied : grants_allow old gained.0.target (asks true false []) ≡ false = ap (grants_allow old gained.0.target) (sym is) ∙ gained.1.2 in
        let matched = matched_alone entry gained.0.target (asks true false []) allowed in
        false≢true (sym unlisted
        ∙ moved old entry gained.0.target (listing_at target) (asks true false []) (listing_there entry.1 old target gained.0.target best empty matched) (listing_moves entry.1 old target gained.0.target best empty matched) allowed denied)
    by_name (b ∷ bs) is =
        by_grant (λ empty. filled_differs b bs (sym is ∙ empty))
        (one_grant_shows old (entry ∷ []) gained.0.target gained.0.needs gained.1.0.needs.something gained.1.1 gained.1.2)
      where
        filled_differs : (b : ℕ) (bs : List ℕ) → (b ∷ bs) ≡ [] → ⊥
        filled_differs b bs e = absurd (cc)
