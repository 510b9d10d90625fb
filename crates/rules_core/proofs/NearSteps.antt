-- Entities that are found by the pools that they name: with the others nothing is shared, so that nothing is found of them.
use Rattle.std.proofs.Common.{◌≡◌, ℕ, zero, suc, ◌+◌, ◌-◌, ◌<◌, ◌≤◌, List, [], ◌∷◌, ◌++◌, ◌⊎◌, Option, None, Some, true, slice_get, slice_index_or, get_or, length, refl, sym, ap, subst, ◌∙◌, inl, inr, arith}
use Rattle.std.specs.List.{All, Contains}
use Rattle.std.specs.List.Sorted.{IsStrictlyIncreasing}
use Rattle.std.proofs.lemmas.Bool.{cases_eq, cases_lt}
use Rattle.std.proofs.lemmas.List.Elements.{All-contains, All-push, All-nil, Contains-append_left, Contains-push}
use Rattle.std.proofs.lemmas.List.Kept.{AllPairs-from_increasing}
use Rattle.std.proofs.lemmas.Option.{get_or_from_slice_get, slice_get_within, slice_get-get_or}
use Rattle.grant_core.specs.Flat.{Flat}
use Rattle.network_core.specs.declared.address.Address.{Address}
use Rattle.request_types.specs.Target.{Target}
use Rattle.rights_core.specs.Rights.{NetworkGrant, Rights, grants_at}
use Rattle.share_core.specs.Near as share
use Rattle.share_core.specs.declared.pools.Pool.{Pool}
use Rattle.share_core.specs.declared.touches.Touch.{Touch}
use Rattle.share_core.specs.declared.touches.Touch.TheVariants.{AnyRead, AnyWrite}
use Rattle.rules_core.specs.Demands.{AreApart, NeverMay}
use Rattle.rules_core.specs.Checking.{IsCrossedFound}
use Rattle.rules_core.specs.Near.{AreEnough, AreFar, AreIndexed, AreNear, ArePlaces, HasGrants, IsIndexed, OthersHave}
use Rattle.rules_core.specs.Rules.{Has, IsFinding, IsRead, is_selected}
use Rattle.rules_core.specs.Subject.{Subject}
use Rattle.rules_core.specs.Touches.{Meets}
use Rattle.rules_core.specs.declared.checking.Found.{Found}
use Rattle.rules_core.specs.declared.demand.Demand.{Demand}
use Rattle.rules_core.specs.declared.demand.Demand.TheVariants.{Never}
use Rattle.rules_core.specs.declared.rule.Rule.{Rule}
use Rattle.rules_core.specs.declared.rule.Rule.TheVariants.{Each}
use Rattle.rules_core.specs.declared.rule.Who.{Who}
use Rattle.rules_core.proofs.Addressing.{obeys}
use Rattle.rules_core.proofs.CheckSteps.{FoundBefore, found_none}
use Rattle.rules_core.proofs.CrossingSteps.{apart, never_crossed}
use Rattle.rules_core.proofs.NeverSteps.{never_broken, shared_in_none}

-- ---- who shares nothing

nowhere : (ones others : Flat) → share.AreApart ones others → (pools : Option (List Pool)) (one other : Touch) (target : Target) → ¬ Meets pools ones one others other target
nowhere ones others are None one other target meets = (are.anywhere one other).0 (target, meets)
nowhere ones others are (Some pools) one other target meets = shared_in_none pools ones others one other (are.in_pools pools one other).0 target meets

pub far_never : (pools : Option (List Pool)) (region entity : List NetworkGrant) → AreFar region entity → NeverMay pools region entity
far_never pools region entity far =
    obeys Never pools region entity
    (λ a is. never_broken pools (grants_at region a) (grants_at entity a) (λ k touch at target. nowhere (grants_at region a) (grants_at entity a) (far a a) pools touch touch target))

pub far_apart : (pools : Option (List Pool)) (one other : List NetworkGrant) → AreFar one other → AreApart pools one other
far_apart pools one other far = apart pools one other
    (λ a b is_a is_b. never_crossed pools (grants_at one a) (grants_at other b)
    (λ target. nowhere (grants_at one a) (grants_at other b) (far a b) pools AnyWrite AnyWrite target)
    (λ target. nowhere (grants_at one a) (grants_at other b) (far a b) pools AnyWrite AnyRead target)
    (λ target. nowhere (grants_at one a) (grants_at other b) (far a b) pools AnyRead AnyWrite target))

-- ---- lists

at_once : {X : Type 0} {a b : X} → Some a ≡ Some b → a ≡ b
at_once e = cc

there : {X : Type 0} (xs : List X) (i : ℕ) → i < length xs → (x : X) × (slice_get xs i ≡ Some x)
there [] i low = absurd (omega arith)
there (x ∷ xs) zero low = (x, refl)
there (x ∷ xs) (suc i) low = there xs i (omega arith)

-- what an index holds, a longer list holds there too
kept_at : {X : Type 0} (xs ys : List X) (i : ℕ) (x : X) → slice_get xs i ≡ Some x → slice_get (xs ++ ys) i ≡ Some x
kept_at [] ys i x at = absurd (cc)
kept_at (y ∷ xs) ys zero x at = at
kept_at (y ∷ xs) ys (suc i) x at = kept_at xs ys i x at

last_at : {X : Type 0} (xs : List X) (x : X) → slice_get (xs ++ x ∷ []) (length xs) ≡ Some x
last_at [] x = refl
last_at (y ∷ xs) x = last_at xs x

length_push : {X : Type 0} (xs : List X) (x : X) → length (xs ++ x ∷ []) ≡ length xs + 1
length_push [] x = refl
length_push (y ∷ xs) x = let before : length (xs ++ x ∷ []) ≡ length xs + 1 = length_push xs x in omega (arith, before)

-- where an element is
place_of : (xs : List ℕ) (x : ℕ) → Contains xs x → (k : ℕ) × (k < length xs) × (slice_get xs k ≡ Some x)
place_of xs x (k, low, is) = (k, low, slice_get-get_or xs k x low ∙ ap (λ y. Some y) is)

pub held : (xs : List ℕ) (k x : ℕ) → slice_get xs k ≡ Some x → Contains xs x
held xs k x at = (k, slice_get_within xs k x at, get_or_from_slice_get xs k x x at)

rises : (xs : List ℕ) (i j x y : ℕ) → IsStrictlyIncreasing xs → i < j → slice_get xs i ≡ Some x → slice_get xs j ≡ Some y → x < y
rises xs i j x y rising low at bt =
    let inside : j < length xs = slice_get_within xs j y bt in
    let first : get_or xs i 0 ≡ x = get_or_from_slice_get xs i x 0 at in
    let second : get_or xs j 0 ≡ y = get_or_from_slice_get xs j y 0 bt in
    let below : get_or xs i 0 < get_or xs j 0 = AllPairs-from_increasing xs rising i j 0 low inside in
    omega (arith, first, second, below)

-- ---- tickets and places

pub indexed_none : (subjects : List Subject) → AreIndexed subjects 0 [] [] []
indexed_none subjects = record {
  counted = refl;
  placed = All-nil (λ place. place < length subjects);
  besides = All-nil (λ place. place < length subjects);
  each = λ place subject at low. absurd (omega arith);
}

pub indexed_other : (subjects : List Subject) (count : ℕ) (tickets : List Flat) (places others more : List ℕ) → count < length subjects → more ≡ others ++ count ∷ [] → AreIndexed subjects count tickets places others
    → AreIndexed subjects (count + 1) tickets places more
indexed_other subjects count tickets places others more inside is are = subst (AreIndexed subjects (count + 1) tickets places) (sym is) (record {
  counted = are.counted;
  placed = are.placed;
  besides = All-push (λ place. place < length subjects) others count are.besides inside;
  each = λ place subject at low. elim (cases_eq place count) [
    | inl same ↦ inl (subst (Contains (others ++ count ∷ [])) (sym same) (Contains-push others count))
    | inr other ↦ (
        elim (are.each place subject at (omega arith)) [
          | inl has ↦ inl (Contains-append_left others (count ∷ []) place has)
          | inr found ↦ inr found
        ]
        )
  ];
})

pub indexed_ticket : (subjects : List Subject) (count : ℕ) (subject : Subject) (tickets more_tickets : List Flat) (grants : Flat) (places more others : List ℕ) → slice_get subjects count ≡ Some subject
    → HasGrants grants subject → more_tickets ≡ tickets ++ grants ∷ [] → more ≡ places ++ count ∷ [] → AreIndexed subjects count tickets places others → AreIndexed subjects (count + 1) more_tickets more others
indexed_ticket subjects count subject tickets more_tickets grants places more others at has is also are =
    subst (λ l. AreIndexed subjects (count + 1) l more others) (sym is) (subst (λ l. AreIndexed subjects (count + 1) (tickets ++ grants ∷ []) l others) (sym also) both)
  where
    here : (place : ℕ) (found : Subject) → slice_get subjects place ≡ Some found → place ≡ count → IsIndexed (tickets ++ grants ∷ []) (places ++ count ∷ []) others place found
    here place found bt same =
        let one : subject ≡ found = at_once (sym at ∙ (ap (slice_get subjects) (sym same) ∙ bt)) in
        inr (
          length places,
          grants,
          last_at places count ∙ ap (λ n. Some n) (sym same),
          subst (λ n. slice_get (tickets ++ grants ∷ []) n ≡ Some grants) (sym are.counted) (last_at tickets grants),
          subst (HasGrants grants) one has,
        )

    both : AreIndexed subjects (count + 1) (tickets ++ grants ∷ []) (places ++ count ∷ []) others
    both = record {
      counted = length_push places count ∙ (ap (λ n. n + 1) are.counted ∙ sym (length_push tickets grants));
      placed = All-push (λ place. place < length subjects) places count are.placed (slice_get_within subjects count subject at);
      besides = are.besides;
      each = λ place found bt low. elim (cases_eq place count) [
        | inl same ↦ here place found bt same
        | inr other ↦ (
            elim (are.each place found bt (omega arith)) [
              | inl besides ↦ inl besides
              | inr one ↦ inr (one.0, one.1, kept_at places (count ∷ []) one.0 place one.2, kept_at tickets (grants ∷ []) one.0 one.1 one.3, one.4)
            ]
            )
      ];
    }

-- ---- the near ones

-- the places of the first near tickets, behind those of the others
pub record IsGathered (subjects : List Subject) (tickets near others places : List ℕ) (count : ℕ) : Type 0 where
  pub inside : All (λ place. place < length subjects) places
  pub kept : (place : ℕ) → Contains others place → Contains places place
  pub has : (j index place : ℕ) → slice_get near j ≡ Some index → j < count → slice_get tickets index ≡ Some place → Contains places place

pub gathered_more : (subjects : List Subject) (tickets near others places more : List ℕ) (count index place : ℕ) → slice_get near count ≡ Some index → slice_get tickets index ≡ Some place → place < length subjects
    → more ≡ places ++ place ∷ [] → IsGathered subjects tickets near others places count → IsGathered subjects tickets near others more (count + 1)
gathered_more subjects tickets near others places more count index place at bt inside is were = subst (λ l. IsGathered subjects tickets near others l (count + 1)) (sym is) (record {
  inside = All-push (λ place. place < length subjects) places place were.inside inside;
  kept = λ other has. Contains-append_left places (place ∷ []) other (were.kept other has);
  has = λ j found other ct low dt. elim (cases_eq j count) [
    | inl same ↦ (
        let one : index ≡ found = at_once (sym at ∙ (ap (slice_get near) (sym same) ∙ ct)) in
        let two : place ≡ other = at_once (sym bt ∙ (ap (slice_get tickets) one ∙ dt)) in
        subst (Contains (places ++ place ∷ [])) two (Contains-push places place)
        )
    | inr differs ↦ Contains-append_left places (place ∷ []) other (were.has j found other ct (omega arith) dt)
  ];
})

pub gathered_none : (subjects : List Subject) (count : ℕ) (tickets : List Flat) (at near others places : List ℕ) → places ≡ others → AreIndexed subjects count tickets at others → IsGathered subjects at near others places 0
gathered_none subjects count tickets at near others places is are = subst (λ l. IsGathered subjects at near others l 0) (sym is) (record {
  inside = are.besides;
  kept = λ place has. has;
  has = λ j index place bt low ct. absurd (omega arith);
})

pub gathered_step : (subjects : List Subject) (size : ℕ) (tickets : List Flat) (here : Flat) (at others near seen places more : List ℕ) (count place : ℕ) → seen ≡ near → share.AreNear here tickets 0 near
    → AreIndexed subjects size tickets at others → count < length seen → place ≡ slice_index_or at (slice_index_or seen count 0) place → more ≡ places ++ place ∷ []
    → IsGathered subjects at seen others places count → IsGathered subjects at seen others more (count + 1)
gathered_step subjects size tickets here at others near seen places more count place same close are low is also were =
    let all : All (λ index. (0 ≤ index) × (index < length tickets)) seen = subst (All (λ index. (0 ≤ index) × (index < length tickets))) (sym same) close.inside in
    let below : slice_index_or seen count 0 < length tickets = (all count 0 low).1 in
    let inside : slice_index_or seen count 0 < length at = omega (arith, below, are.counted) in
    let small : place < length subjects = subst (λ n. n < length subjects) (sym is) (are.placed (slice_index_or seen count 0) place inside) in
    gathered_more subjects at seen others places more count (slice_index_or seen count 0) place (slice_get-get_or seen count 0 low)
    (slice_get-get_or at (slice_index_or seen count 0) place inside ∙ ap (λ n. Some n) (sym is)) small also were

pub near_of : (subjects : List Subject) (grants : List NetworkGrant) (here : Flat) (tickets : List Flat) (at others near places kept : List ℕ) (count : ℕ) → length near ≤ count
    → ((a : Address) → grants_at grants a ≡ here) → AreIndexed subjects (length subjects) tickets at others → share.AreNear here tickets 0 near → IsGathered subjects at near others places count
    → IsStrictlyIncreasing kept → ((place : ℕ) → Contains places place → Contains kept place) → All (Contains places) kept → AreNear grants subjects kept
near_of subjects grants here tickets at others near places kept count past same are close were rising more among =
    (record { rising = rising; inside = λ k d low. All-contains (λ place. place < length subjects) places (slice_index_or kept k d) were.inside (among k d low) }, rest)
  where
    by_ticket : (place : ℕ) (subject : Subject) → ((index : ℕ) × (theirs : Flat) × (slice_get at index ≡ Some place) × (slice_get tickets index ≡ Some theirs) × HasGrants theirs subject)
        → Contains kept place ⊎ Has (AreFar grants) subject
    by_ticket place subject (index, theirs, there_at, ticket_at, (rights, read, all)) = elim (close.others index theirs ticket_at (omega arith)) [
      | inl has ↦ (
          let found = place_of near index has in
          inl (more place (were.has found.0 index place found.2 (omega (arith, found.1)) there_at))
          )
      | inr far ↦ inr (rights, read, λ a b. subst (λ l. share.AreApart l (grants_at rights.grants b)) (sym (same a)) (subst (share.AreApart here) (sym (all b)) far))
    ]

    rest : OthersHave (Has (AreFar grants)) subjects kept
    rest place subject is = elim (are.each place subject is (slice_get_within subjects place subject is)) [
      | inl besides ↦ inl (more place (were.kept place besides))
      | inr found ↦ by_ticket place subject found
    ]

-- ---- all places

pub record AreFirst (places : List ℕ) (count : ℕ) : Type 0 where
  pub counted : length places ≡ count
  pub each : (k : ℕ) → k < count → slice_get places k ≡ Some k

pub first_none : AreFirst [] 0
first_none = record { counted = refl; each = λ k low. absurd (omega arith) }

pub first_more : (places more : List ℕ) (count : ℕ) → more ≡ places ++ count ∷ [] → AreFirst places count → AreFirst more (count + 1)
first_more places more count is were = subst (λ l. AreFirst l (count + 1)) (sym is) (record {
  counted = length_push places count ∙ ap (λ n. n + 1) were.counted;
  each = λ k low. elim (cases_eq k count) [
    | inl same ↦ subst (λ n. slice_get (places ++ count ∷ []) n ≡ Some n) (sym same) (subst (λ n. slice_get (places ++ count ∷ []) n ≡ Some count) were.counted (last_at places count))
    | inr other ↦ kept_at places (count ∷ []) k k (were.each k (omega arith))
  ];
})

pub first_places : (subjects : List Subject) (places : List ℕ) (count : ℕ) → count ≡ length subjects → AreFirst places count → ArePlaces subjects places
first_places subjects places count is are = record {
  rising = λ k low.
      let one : get_or places k 0 ≡ k = get_or_from_slice_get places k k 0 (are.each k (omega (arith, are.counted))) in
      let two : get_or places (k + 1) 0 ≡ k + 1 = get_or_from_slice_get places (k + 1) (k + 1) 0 (are.each (k + 1) (omega (arith, are.counted))) in
      omega (arith, one, two);
  inside = λ k d low.
      let one : get_or places k d ≡ k = get_or_from_slice_get places k k d (are.each k (omega (arith, are.counted))) in
      omega (arith, one, are.counted, is);
}

pub first_has : (subjects : List Subject) (places : List ℕ) (count : ℕ) → count ≡ length subjects → AreFirst places count → (place : ℕ) → place < length subjects → Contains places place
first_has subjects places count is are place low = held places place place (are.each place (omega (arith, is)))

pub all_near : (grants : List NetworkGrant) (subjects : List Subject) (places : List ℕ) → ArePlaces subjects places → ((place : ℕ) → place < length subjects → Contains places place) → AreNear grants subjects places
all_near grants subjects places are has = (are, λ place subject at. inl (has place (slice_get_within subjects place subject at)))

-- ---- what is found of the entities at some places, in order

-- the entities before one place are done, and the first of the places
pub record IsDone (pools : Option (List Pool)) (rule : Rule) (subjects : List Subject) (places : List ℕ) (count next : ℕ) (founds : List Found) : Type 0 where
  pub before : FoundBefore pools rule subjects next founds
  pub fits : next ≤ length subjects
  pub passed : (j place : ℕ) → slice_get places j ≡ Some place → j < count → place < next
  pub ahead : (j place : ℕ) → slice_get places j ≡ Some place → count ≤ j → next ≤ place

abbrev pub AreDone : Option (List Pool) → Rule → List Subject → List ℕ → ℕ → List Found → Type 0
AreDone pools rule subjects places count founds = (next : ℕ) × IsDone pools rule subjects places count next founds

abbrev NoneOf : Option (List Pool) → Rule → List Subject → ℕ → ℕ → Type 0
NoneOf pools rule subjects low high = (k : ℕ) (subject : Subject) → slice_get subjects k ≡ Some subject → low ≤ k → k < high → IsFinding pools rule subjects subject None

gap : (pools : Option (List Pool)) (rule : Rule) (subjects : List Subject) (founds : List Found) (next d : ℕ) → next + d ≤ length subjects → NoneOf pools rule subjects next (next + d)
    → FoundBefore pools rule subjects next founds → FoundBefore pools rule subjects (next + d) founds
gap pools rule subjects founds next zero fits none before = let same : next ≡ next + 0 = omega arith in subst (λ n. FoundBefore pools rule subjects n founds) same before
gap pools rule subjects founds next (suc d) fits none before =
    let one = there subjects (next + d) (omega arith) in
    let up_to : FoundBefore pools rule subjects (next + d) founds = gap pools rule subjects founds next d (omega arith) (λ k subject at low high. none k subject at low (omega arith)) before in
    let same : next + d + 1 ≡ next + suc d = omega arith in
    subst (λ n. FoundBefore pools rule subjects n founds) same
    (found_none pools rule subjects (next + d) one.0 founds (omega arith) (sym (get_or_from_slice_get subjects (next + d) one.0 one.0 one.1)) (none (next + d) one.0 one.1 (omega arith) (omega arith)) up_to)

reached : (pools : Option (List Pool)) (rule : Rule) (subjects : List Subject) (places : List ℕ) (count next to : ℕ) (founds : List Found) → IsDone pools rule subjects places count next founds
    → OthersHave (λ subject. IsFinding pools rule subjects subject None) subjects places → next ≤ to → to ≤ length subjects → ((j place : ℕ) → slice_get places j ≡ Some place → count ≤ j → to ≤ place)
    → FoundBefore pools rule subjects to founds
reached pools rule subjects places count next to founds done others low fits beyond =
    let same : next + (to - next) ≡ to = omega arith in
    subst (λ n. FoundBefore pools rule subjects n founds) same (gap pools rule subjects founds next (to - next) (omega arith) between done.before)
  where
    among : (k : ℕ) → Contains places k → next ≤ k → k < to → ⊥
    among k has from below =
        let found = place_of places k has in
        elim (cases_lt found.0 count) [
          | inl early ↦ (let past : k < next = done.passed found.0 k found.2 early in omega (arith, past))
          | inr late ↦ (let on : to ≤ k = beyond found.0 k found.2 late in omega (arith, on))
        ]

    between : NoneOf pools rule subjects next (next + (to - next))
    between k subject at from below = elim (others k subject at) [
      | inl has ↦ absurd (among k has from (omega arith))
      | inr none ↦ none
    ]

pub done_none : (pools : Option (List Pool)) (rule : Rule) (subjects : List Subject) (places : List ℕ) → AreDone pools rule subjects places 0 []
done_none pools rule subjects places = (
  0,
  record {
    before = λ others h. h;
    fits = omega arith;
    passed = λ j place at low. absurd (omega arith);
    ahead = λ j place at low. omega arith;
  },
)

-- before a place
pub up_to : (pools : Option (List Pool)) (rule : Rule) (subjects : List Subject) (places : List ℕ) (count place : ℕ) (founds : List Found) → AreDone pools rule subjects places count founds
    → IsStrictlyIncreasing places → OthersHave (λ subject. IsFinding pools rule subjects subject None) subjects places → slice_get places count ≡ Some place → place < length subjects
    → FoundBefore pools rule subjects place founds
up_to pools rule subjects places count place founds (next, done) rising others at inside =
    reached pools rule subjects places count next place founds done others (done.ahead count place at (omega arith)) (omega arith)
    (λ j other bt low. elim (cases_eq j count) [
      | inl same ↦ (
          let one : other ≡ place = at_once (sym bt ∙ (ap (slice_get places) same ∙ at)) in
          omega (arith, one)
          )
      | inr later ↦ (let above : place < other = rises places count j place other rising (omega arith) at bt in omega (arith, above))
    ])

-- and behind it
pub done_more : (pools : Option (List Pool)) (rule : Rule) (subjects : List Subject) (places : List ℕ) (count place : ℕ) (founds more : List Found) → AreDone pools rule subjects places count founds
    → IsStrictlyIncreasing places → slice_get places count ≡ Some place → place < length subjects → FoundBefore pools rule subjects (place + 1) more → AreDone pools rule subjects places (count + 1) more
done_more pools rule subjects places count place founds more (next, done) rising at inside before = (
  place + 1,
  record {
    before = before;
    fits = omega arith;
    passed = λ j other bt low. elim (cases_eq j count) [
      | inl same ↦ (
          let one : other ≡ place = at_once (sym bt ∙ (ap (slice_get places) same ∙ at)) in
          omega (arith, one)
          )
      | inr earlier ↦ (let below : other < place = rises places j count other place rising (omega arith) bt at in omega (arith, below))
    ];
    ahead = λ j other bt low. let above : place < other = rises places count j place other rising (omega arith) at bt in omega (arith, above);
  },
)

pub done_all : (pools : Option (List Pool)) (rule : Rule) (subjects : List Subject) (places : List ℕ) (count : ℕ) (founds : List Found) → AreDone pools rule subjects places count founds → length places ≤ count
    → OthersHave (λ subject. IsFinding pools rule subjects subject None) subjects places → FoundBefore pools rule subjects (length subjects) founds
done_all pools rule subjects places count founds (next, done) past others =
    reached pools rule subjects places count next (length subjects) founds done others done.fits (omega arith)
    (λ j place at low. let within : j < length places = slice_get_within places j place at in absurd (omega arith))

-- ---- which entities are enough

pub enough_near : (pools : Option (List Pool)) (who : Who) (region : Rights) (subjects : List Subject) (places : List ℕ) → AreNear region.grants subjects places → AreEnough pools (Each Never who region) subjects places
enough_near pools who region subjects places near =
    (near.0, λ place subject at. elim (near.1 place subject at) [ inl has ↦ inl has | inr far ↦ inr (λ selected. (far.0, far.1, far_never pools region.grants far.0.grants far.2)) ])

pub enough_all : (pools : Option (List Pool)) (rule : Rule) (subjects : List Subject) (places : List ℕ) → ArePlaces subjects places → ((place : ℕ) → place < length subjects → Contains places place)
    → AreEnough pools rule subjects places
enough_all pools rule subjects places are has = (are, λ place subject at. inl (has place (slice_get_within subjects place subject at)))

pub never_enough : (rule : Rule) (demand : Demand) (who : Who) (region : Rights) (subjects : List Subject) (places : List ℕ) → rule ≡ Each demand who region → demand ≡ Never → AreNear region.grants subjects places
    → (pools : Option (List Pool)) → AreEnough pools rule subjects places
never_enough rule demand who region subjects places is never near pools =
    subst (λ r. AreEnough pools r subjects places) (sym is) (subst (λ d. AreEnough pools (Each d who region) subjects places) (sym never) (enough_near pools who region subjects places near))

-- what holds of the entities at the first of some places
abbrev pub HoldsSoFar : (Subject → Type 0) → List Subject → List ℕ → ℕ → Type 0
HoldsSoFar P subjects places count = (j place : ℕ) (subject : Subject) → slice_get places j ≡ Some place → j < count → slice_get subjects place ≡ Some subject → P subject

pub holds_none : (P : Subject → Type 0) (subjects : List Subject) (places : List ℕ) → HoldsSoFar P subjects places 0
holds_none P subjects places j place subject at low bt = absurd (omega arith)

pub holds_more : (P : Subject → Type 0) (subjects : List Subject) (places : List ℕ) (count place : ℕ) (subject : Subject) → slice_get places count ≡ Some place → slice_get subjects place ≡ Some subject → P subject
    → HoldsSoFar P subjects places count → HoldsSoFar P subjects places (count + 1)
holds_more P subjects places count place subject at bt here before j other found ct low dt = elim (cases_eq j count) [
  | inl same ↦ (
      let one : place ≡ other = at_once (sym at ∙ (ap (slice_get places) (sym same) ∙ ct)) in
      subst P (at_once (sym bt ∙ (ap (slice_get subjects) one ∙ dt))) here
      )
  | inr differs ↦ before j other found ct (omega arith) dt
]

-- with entities that are far, nothing crosses
pub crossed_none : (pools : Option (List Pool)) (grants : List NetworkGrant) (others : Who) (subjects : List Subject) (places : List ℕ) (count : ℕ) → AreNear grants subjects places → length places ≤ count
    → HoldsSoFar (λ other. is_selected others other.name ≡ true → IsRead other → Has (AreApart pools grants) other) subjects places count → IsCrossedFound pools grants others subjects None
crossed_none pools grants others subjects places count near past before other one selected read = elim (near.1 one.0 other one.1) [
  | inl has ↦ (
      let found = place_of places one.0 has in
      before found.0 one.0 other found.2 (omega (arith, found.1)) one.1 selected read
      )
  | inr far ↦ (far.0, far.1, far_apart pools grants far.0.grants far.2)
]

-- the entity at one of the places
pub subject_there : (entities subjects : List Subject) (near items : List ℕ) (count : ℕ) (subject : Subject) → subjects ≡ entities → items ≡ near → All (λ place. place < length entities) near → count < length items
    → subject ≡ get_or subjects (slice_index_or items count 0) subject → slice_get entities (slice_index_or items count 0) ≡ Some subject
subject_there entities subjects near items count subject same are inside low is =
    let place : ℕ = slice_index_or items count 0 in
    let within : place < length entities = subst (All (λ place. place < length entities)) (sym are) inside count 0 low in
    slice_get-get_or entities place subject within ∙ ap (λ x. Some x) (sym (subst (λ l. subject ≡ get_or l place subject) same is))

pub crossed_more : (P : Subject → Type 0) (entities subjects : List Subject) (near items : List ℕ) (count : ℕ) (subject : Subject) → subjects ≡ entities → items ≡ near
    → All (λ place. place < length entities) near → count < length items → subject ≡ get_or subjects (slice_index_or items count 0) subject → P subject → HoldsSoFar P entities items count
    → HoldsSoFar P entities items (count + 1)
crossed_more P entities subjects near items count subject same are inside low is here before =
    holds_more P entities items count (slice_index_or items count 0) subject (slice_get-get_or items count 0 low) (subject_there entities subjects near items count subject same are inside low is) here before
