-- Tickets whose places are noted for the pools that they name.
use Rattle.std.proofs.Common.{◌≡◌, ◌≢◌, ◌<◌, ◌≤◌, ℕ, zero, suc, ◌+◌, List, [], ◌∷◌, ◌++◌, map, Bool, true, false, cond, ◌⊎◌, Option, None, Some, is_none, length, slice_get, slice_index_or, nat_eq, nat_le, refl, sym, ap, subst, ◌∙◌, inl, inr, arith}
use Rattle.std.specs.List.{Contains, filter, flat_map, list_any}
use Rattle.std.specs.List.Sorted.{IsStrictlyIncreasing}
use Rattle.std.specs.Prelude.{All}
use Rattle.std.proofs.lemmas.Bool.{false≢true, le-leb, leb-true, lt-ltb, ltb-true}
use Rattle.std.proofs.lemmas.Bool.Decides.{Decides-eqb}
use Rattle.std.proofs.lemmas.List.Elements.{All-contains, Contains-append_cases, Contains-append_left, Contains-append_right, Contains-push, Contains-push_cases, filter_passes}
use Rattle.std.proofs.lemmas.Option.{slice_get_within}
use Rattle.cap_grants.specs.declared.grant.AllowGrant.{AllowGrant}
use Rattle.compare_core.proofs.Bools.{both, both_left, both_right, none_at, some_pass, true_or_false}
use Rattle.compare_core.proofs.Fronts.{same_text}
use Rattle.grant_core.specs.Flat.{Flat}
use Rattle.share_core.specs.Meeting.{pools_meet}
use Rattle.share_core.specs.Near.{AreApart, AreNear, LeaveOutApart}
use Rattle.share_core.specs.PoolPlaces.{AreKept, AreNoted, IsNotedFor, gathered, has_unnamed, is_between, named_of, noted, of_name}
use Rattle.share_core.specs.declared.pool_places.PoolPlaces.{PoolPlaces}
use Rattle.share_core.proofs.Apart.{apart, some_meet}
use Rattle.share_core.proofs.NotedPools.{Contains-flat_map}

abbrev Entry : Type 0
Entry = List ℕ × AllowGrant

-- all places are candidates
pub all_listed : (grants : Flat) (tickets : List Flat) (from count : ℕ) (places : List ℕ) → count ≡ length tickets
    → ((place : ℕ) → from ≤ place → place < count → Contains places place) → LeaveOutApart grants tickets from places
all_listed grants tickets from count places is has place other at low = inl (has place low (subst (λ n. place < n) (sym is) (slice_get_within tickets place other at)))

-- a place that is noted for a pool that meets another one is among those of that one
found : (places : PoolPlaces) (place : ℕ) (o p : Option (List ℕ)) → is_none o ≡ false → pools_meet o p ≡ true → Contains (noted places p) place
    → Contains places.unnamed.items place ⊎ Contains (named_of places o) place
found places place None p named meets has = absurd (false≢true (sym named))
found places place (Some q) None named meets has = inl has
found places place (Some q) (Some r) named meets has = inr (subst (λ name. Contains (of_name places.named.entries name) place) (sym (same_text q r meets)) has)

-- what is gathered for some grants leaves out only tickets that are apart
pub gathered_all : (places : PoolPlaces) (grants : Flat) (tickets : List Flat) (from : ℕ) → AreNoted (noted places) tickets → has_unnamed grants ≡ false
    → LeaveOutApart grants tickets from (gathered places grants)
gathered_all places grants tickets from are named place other at low = go (some_meet grants other) refl
  where
    listed : some_meet grants other ≡ true → Contains (gathered places grants) place
    listed e =
        let mine = some_pass (λ (mine : Entry). list_any (λ (theirs : Entry). pools_meet mine.1.pool theirs.1.pool) other) grants e in
        let theirs = some_pass (λ (theirs : Entry). pools_meet mine.1.0.1.pool theirs.1.pool) other mine.1.1.1 in
        elim (found places place mine.1.0.1.pool theirs.1.0.1.pool (none_at (λ (entry : Entry). is_none entry.1.pool) grants mine.0 mine.1.0 named mine.1.1.0) theirs.1.1.1
        (are place other at theirs.0 theirs.1.0 theirs.1.1.0)) [
          | inl has ↦ Contains-append_left places.unnamed.items (flat_map (λ (entry : Entry). named_of places entry.1.pool) grants) place has
          | inr has ↦ (
              Contains-append_right places.unnamed.items (flat_map (λ (entry : Entry). named_of places entry.1.pool) grants) place
              (Contains-flat_map (λ (entry : Entry). named_of places entry.1.pool) grants mine.0 mine.1.0 place mine.1.1.0 has)
              )
        ]

    go : (b : Bool) → some_meet grants other ≡ b → Contains (gathered places grants) place ⊎ AreApart grants other
    go true e = inl (listed e)
    go false e = inr (apart grants other e)

nowhere : {X : Type 0} (x : X) → Contains [] x → ⊥
nowhere x (k, low, is) = omega (arith, low)

-- what a filter keeps
pub Contains-filter : {X : Type 0} (p : X → Bool) (xs : List X) (x : X) → p x ≡ true → Contains xs x → Contains (filter p xs) x
Contains-filter p [] x passes has = has
Contains-filter p (y ∷ ys) x passes has = go (p y) refl (Contains-append_cases (y ∷ []) ys x has) (Contains-filter p ys x passes)
  where
    go : (b : Bool) → p y ≡ b → Contains (y ∷ []) x ⊎ Contains ys x → (Contains ys x → Contains (filter p ys) x) → Contains (cond b (y ∷ filter p ys) (filter p ys)) x
    go true e (inl here) later = Contains-append_left (y ∷ []) (filter p ys) x here
    go true e (inr there) later = Contains-append_right (y ∷ []) (filter p ys) x (later there)
    go false e (inl here) later = elim (Contains-push_cases [] y x here) [
      | inl none ↦ absurd (nowhere x none)
      | inr same ↦ absurd (false≢true (sym e ∙ (ap p same ∙ passes)))
    ]
    go false e (inr there) later = later there

between : (from count place : ℕ) → is_between from count place ≡ true → (from ≤ place) × (place < count)
between from count place h = (leb-true from place (both_left (nat_le from place) _ h), ltb-true place count (both_right (nat_le from place) _ h))

is_in : (from count place : ℕ) → from ≤ place → place < count → is_between from count place ≡ true
is_in from count place low high = both _ _ (le-leb from place low) (lt-ltb place count high)

-- candidates, from one place on and below another, in order
pub near_by : (grants : Flat) (tickets : List Flat) (from count : ℕ) (candidates some places : List ℕ) → count ≡ length tickets → some ≡ filter (is_between from count) candidates
    → IsStrictlyIncreasing places → ((place : ℕ) → Contains some place → Contains places place) → All (Contains some) places
    → LeaveOutApart grants tickets from candidates → AreNear grants tickets from places
near_by grants tickets from count candidates some places is filtered rising kept among leaves = record {
  rising = rising;
  inside = λ k d low.
      let x = slice_index_or places k d in
      let passes = All-contains (λ place. is_between from count place ≡ true) (filter (is_between from count) candidates) x (filter_passes (is_between from count) candidates)
      (subst (λ l. Contains l x) filtered (among k d low)) in
      subst (λ n. (from ≤ x) × (x < n)) is (between from count x passes);
  others = λ place other at low. elim (leaves place other at low) [
    | inl has ↦ inl (kept place (subst (λ l. Contains l place) (sym filtered)
        (Contains-filter (is_between from count) candidates place (is_in from count place low (subst (λ n. place < n) (sym is) (slice_get_within tickets place other at))) has)))
    | inr away ↦ inr away
  ];
}

-- one ticket more

pub noted_kept : (old new : Option (List ℕ) → List ℕ) (tickets : List Flat) → AreKept old new → AreNoted old tickets → AreNoted new tickets
noted_kept old new tickets kept are place grants at i entry is = kept entry.1.pool place (are place grants at i entry is)

some_same : {X : Type 0} {a b : X} → Some a ≡ Some b → a ≡ b
some_same e = cc

at_push : {X : Type 0} (xs : List X) (x y : X) (i : ℕ) → slice_get (xs ++ x ∷ []) i ≡ Some y → (slice_get xs i ≡ Some y) ⊎ ((length xs ≡ i) × (x ≡ y))
at_push [] x y zero at = inr (refl, some_same at)
at_push [] x y (suc i) at = absurd (cc)
at_push (z ∷ zs) x y zero at = inl at
at_push (z ∷ zs) x y (suc i) at = elim (at_push zs x y i at) [
  | inl there ↦ inl there
  | inr last ↦ inr (ap suc last.0, last.1)
]

pub noted_more : (at : Option (List ℕ) → List ℕ) (tickets : List Flat) (grants : Flat) → AreNoted at tickets → IsNotedFor at (length tickets) grants → AreNoted at (tickets ++ grants ∷ [])
noted_more at tickets grants are last place others is = elim (at_push tickets grants others place is) [
  | inl there ↦ are place others there
  | inr here ↦ subst (λ n. IsNotedFor at n others) here.0 (subst (λ g. IsNotedFor at (length tickets) g) here.1 last)
]

pub map_push : {X Y : Type 0} (f : X → Y) (xs : List X) (x : X) → map f (xs ++ x ∷ []) ≡ map f xs ++ f x ∷ []
map_push f [] x = refl
map_push f (y ∷ ys) x = ap (λ rest. f y ∷ rest) (map_push f ys x)

pub length_map : {X Y : Type 0} (f : X → Y) (xs : List X) → length (map f xs) ≡ length xs
length_map f [] = refl
length_map f (x ∷ xs) = ap suc (length_map f xs)

pub indexed_more : {X : Type 0} (f : X → Flat) (old new : Option (List ℕ) → List ℕ) (tickets more : List X) (ticket : X) (count : ℕ) (grants : Flat) → more ≡ tickets ++ ticket ∷ []
    → count ≡ length tickets → grants ≡ f ticket → AreKept old new → AreNoted old (map f tickets) → IsNotedFor new count grants → AreNoted new (map f more)
indexed_more f old new tickets more ticket count grants is long same kept are last =
    subst (AreNoted new) (sym (ap (λ l. map f l) is ∙ map_push f tickets ticket))
    (noted_more new (map f tickets) (f ticket) (noted_kept old new (map f tickets) kept are)
    (subst (λ n. IsNotedFor new n (f ticket)) (long ∙ sym (length_map f tickets)) (subst (λ g. IsNotedFor new count g) same last)))

pub count_of : {X : Type 0} (f : X → Flat) (tickets : List X) (seen : List Flat) (count : ℕ) → count ≡ length tickets → map f tickets ≡ seen → count ≡ length seen
count_of f tickets seen count long same = long ∙ (sym (length_map f tickets) ∙ ap (λ l. length l) same)

pub all_pushed : (from count : ℕ) (old new : List ℕ) → new ≡ old ++ count ∷ [] → ((place : ℕ) → from ≤ place → place < count → Contains old place)
    → (place : ℕ) → from ≤ place → place < count + 1 → Contains new place
all_pushed from count old new is before place low high = elim (true_or_false (nat_eq place count)) [
  | inl here ↦ subst (λ l. Contains l place) (sym is) (subst (λ n. Contains (old ++ n ∷ []) place) ((Decides-eqb place count).0 here) (Contains-push old place))
  | inr other ↦ (
      let differs : place ≢ count = λ same. false≢true (sym other ∙ (Decides-eqb place count).1 same) in
      subst (λ l. Contains l place) (sym is) (Contains-append_left old (count ∷ []) place (before place low (omega arith)))
      )
]
