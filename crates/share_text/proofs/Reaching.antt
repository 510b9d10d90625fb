-- Where the data that a tenant writes may flow, and what is reported of it.
use Rattle.std.proofs.Common.{◌≡◌, ℕ, zero, suc, ◌+◌, ◌<◌, ◌≤◌, ◌⊎◌, ◌↔◌, List, [], ◌∷◌, ◌++◌, Bool, ◌||◌, Option, Some, append_assoc, codes, drop, get_or, slice_get, slice_index, length, map, refl, sym, ap, subst, ◌∙◌, inl, inr, add-one, arith, length-append}
use Rattle.std.specs.List.{Contains}
use Rattle.std.proofs.Math.Seq.{get_or-append_seam}
use Rattle.std.proofs.lemmas.Bool.{cases_lt}
use Rattle.std.proofs.lemmas.List.{drop_more, get_or-map, get_or_append_left, get_or_past, length-map}
use Rattle.std.proofs.lemmas.List.Elements.{Contains-append_left, Contains-push, Contains-push_cases}
use Rattle.std.proofs.lemmas.Option.{slice_get-get_or}
use Rattle.flow_core.specs.Chains.{IsStep}
use Rattle.flow_core.proofs.Listing.{in_none}
use Rattle.verdict_text.specs.ShownName.{shown_name}
use Rattle.grant_core.specs.Flat.{Flat}
use Rattle.share_core.specs.Near.{AreApart, AreNear}
use Rattle.share_core.specs.declared.pools.Pool.{Pool}
use Rattle.share_text.specs.Behind.{grants_of}
use Rattle.share_text.specs.Everybody.{listed}
use Rattle.share_text.specs.Flows.{OfEach, grants_at, name_at}
use Rattle.share_text.specs.Kinds.{ShareWithin}
use Rattle.share_text.specs.declared.kind.Kind.TheVariants.{WritesReads}
use Rattle.share_text.specs.declared.tenants.Tenant.{Tenant}
use Rattle.share_text.proofs.NearTold.{length_grants, no_share}

-- what a list has at a place where its items are seen in another form
pub seen_at : {X Y : Type 0} (f : X → Y) (xs : List X) (i : ℕ) (x : X) (d : Y) → i < length xs → x ≡ get_or xs i x → get_or (map f xs) i d ≡ f x
seen_at f xs i x d inside at = get_or-map f xs i x d inside ∙ ap f (sym at)

pub seen_past : {X Y : Type 0} (f : X → Y) (xs : List X) (i : ℕ) (d : Y) → length xs ≤ i → get_or (map f xs) i d ≡ d
seen_past f xs i d past = get_or_past (map f xs) i d (omega (arith, length-map xs f))

-- the places below a number of which something holds
abbrev pub ListsBelow : (ℕ → Type 0) → List ℕ → ℕ → Type 0
ListsBelow Holds places n = (place : ℕ) → Contains places place ↔ ((place < n) × Holds place)

-- those among some places of which something holds
abbrev pub Keeps : (ℕ → Type 0) → List ℕ → List ℕ → Type 0
Keeps Holds among kept = (place : ℕ) → Contains kept place ↔ (Contains among place × Holds place)

pub keeps_none : (Holds : ℕ → Type 0) → Keeps Holds [] []
keeps_none Holds place = (λ inside. absurd (in_none place inside), λ h. h.0)

was_kept : (Holds : ℕ → Type 0) (among kept : List ℕ) (n place : ℕ) → Keeps Holds among kept → Holds n → Contains kept place ⊎ (n ≡ place)
    → Contains (among ++ n ∷ []) place × Holds place
was_kept Holds among kept n place keeps here (inl inside) = let h : Contains among place × Holds place = (keeps place).0 inside in (Contains-append_left among (n ∷ []) place h.0, h.1)
was_kept Holds among kept n place keeps here (inr same) = (subst (Contains (among ++ n ∷ [])) same (Contains-push among n), subst Holds same here)

is_kept : (Holds : ℕ → Type 0) (among kept : List ℕ) (n place : ℕ) → Keeps Holds among kept → Holds place → Contains among place ⊎ (n ≡ place) → Contains (kept ++ n ∷ []) place
is_kept Holds among kept n place keeps holds (inl inside) = Contains-append_left kept (n ∷ []) place ((keeps place).1 (inside, holds))
is_kept Holds among kept n place keeps holds (inr same) = subst (Contains (kept ++ n ∷ [])) same (Contains-push kept n)

pub keeps_one : (Holds : ℕ → Type 0) (among all kept more : List ℕ) (n : ℕ) → all ≡ among ++ n ∷ [] → more ≡ kept ++ n ∷ [] → Holds n → Keeps Holds among kept → Keeps Holds all more
keeps_one Holds among all kept more n whole is here keeps =
    subst (λ l. Keeps Holds l more) (sym whole)
    (subst (Keeps Holds (among ++ n ∷ [])) (sym is)
    (λ place. (
      λ inside. was_kept Holds among kept n place keeps here (Contains-push_cases kept n place inside),
      λ h. is_kept Holds among kept n place keeps h.1 (Contains-push_cases among n place h.0),
    )))

was_before : (Holds : ℕ → Type 0) (among kept : List ℕ) (n place : ℕ) → Keeps Holds among kept → (Holds n → ⊥) → Holds place → Contains among place ⊎ (n ≡ place) → Contains kept place
was_before Holds among kept n place keeps none holds (inl inside) = (keeps place).1 (inside, holds)
was_before Holds among kept n place keeps none holds (inr same) = absurd (none (subst Holds (sym same) holds))

pub keeps_without : (Holds : ℕ → Type 0) (among all kept : List ℕ) (n : ℕ) → all ≡ among ++ n ∷ [] → (Holds n → ⊥) → Keeps Holds among kept → Keeps Holds all kept
keeps_without Holds among all kept n whole none keeps =
    subst (λ l. Keeps Holds l kept) (sym whole)
    (λ place. (
      λ inside. let h : Contains among place × Holds place = (keeps place).0 inside in (Contains-append_left among (n ∷ []) place h.0, h.1),
      λ h. was_before Holds among kept n place keeps none h.1 (Contains-push_cases among n place h.0),
    ))

-- the near ones that read are all that read

is_near : (grants : Flat) (tenants : List Tenant) (near : List ℕ) (place : ℕ) → AreNear grants (grants_of tenants) 0 near → Contains near place → place < length tenants
is_near grants tenants near place are (k, low, is) =
    let inside : get_or near k place < length (grants_of tenants) = (are.inside k place low).1 in
    omega (arith, inside, is, length_grants tenants)

pub grants_near : (grants : Flat) (tenants : List Tenant) (near : List ℕ) (i : ℕ) (tenant : Tenant) → AreNear grants (grants_of tenants) 0 near → i < length near
    → tenant ≡ get_or tenants (slice_index near i) tenant → grants_at tenants (slice_index near i) ≡ tenant.ticket.now.grants
grants_near grants tenants near i tenant are inside at =
    let below : slice_index near i < length (grants_of tenants) = (are.inside i 0 inside).1 in
    seen_at (λ (tenant : Tenant). tenant.ticket.now.grants) tenants (slice_index near i) tenant [] (omega (arith, below, length_grants tenants)) at

reads_near : (pools : Option (List Pool)) (grants : Flat) (tenants : List Tenant) (near : List ℕ) (place : ℕ) → ShareWithin pools WritesReads grants (grants_at tenants place)
    → Contains near place ⊎ AreApart grants (grants_at tenants place) → Contains near place
reads_near pools grants tenants near place reads (inl inside) = inside
reads_near pools grants tenants near place reads (inr apart) = absurd (no_share pools WritesReads grants (grants_at tenants place) apart reads)

pub all_readers : (pools : Option (List Pool)) (grants : Flat) (tenants : List Tenant) (near readers : List ℕ) → AreNear grants (grants_of tenants) 0 near
    → Keeps (λ reader. ShareWithin pools WritesReads grants (grants_at tenants reader)) near readers
    → ListsBelow (λ reader. ShareWithin pools WritesReads grants (grants_at tenants reader)) readers (length tenants)
all_readers pools grants tenants near readers are keeps place = (
  λ inside.
      let h : Contains near place × ShareWithin pools WritesReads grants (grants_at tenants place) = (keeps place).0 inside in
      (is_near grants tenants near place are h.0, h.1),
  λ h.
      let below : place < length tenants = h.0 in
      let at : slice_get (grants_of tenants) place ≡ Some (grants_at tenants place) = slice_get-get_or (grants_of tenants) place [] (omega (arith, below, length_grants tenants)) in
      (keeps place).1 (reads_near pools grants tenants near place h.1 (are.others place (grants_at tenants place) at (omega arith)), h.1),
)

-- `count` lists of places, each list of the places of which something holds
pub record AreLists (Holds : ℕ → ℕ → Type 0) (n : ℕ) (lists : List (List ℕ)) (count : ℕ) : Type 0 where
  pub size : length lists ≡ count
  pub each : (one : ℕ) → one < count → ListsBelow (Holds one) (get_or lists one []) n

pub no_lists : (Holds : ℕ → ℕ → Type 0) (n : ℕ) → AreLists Holds n [] 0
no_lists Holds n = record { size = refl; each = λ one below. absurd (omega arith) }

one_of_lists : (Holds : ℕ → ℕ → Type 0) (n : ℕ) (lists : List (List ℕ)) (count : ℕ) (last : List ℕ) (one : ℕ) → AreLists Holds n lists count → ListsBelow (Holds count) last n
    → (one < count) ⊎ (count ≤ one) → one < count + 1 → ListsBelow (Holds one) (get_or (lists ++ last ∷ []) one []) n
one_of_lists Holds n lists count last one are is (inl before) below =
    subst (λ l. ListsBelow (Holds one) l n) (sym (get_or_append_left lists (last ∷ []) [] one (omega (arith, are.size)))) (are.each one before)
one_of_lists Holds n lists count last one are is (inr past) below =
    let now : one ≡ count = omega arith in
    let at : one ≡ length lists = omega (arith, are.size) in
    subst (λ l. ListsBelow (Holds one) l n) (sym (ap (λ i. get_or (lists ++ last ∷ []) i []) at ∙ get_or-append_seam lists last [] [])) (subst (λ i. ListsBelow (Holds i) last n) (sym now) is)

pub one_list_more : (Holds : ℕ → ℕ → Type 0) (n : ℕ) (lists more : List (List ℕ)) (count : ℕ) (last : List ℕ) → more ≡ lists ++ last ∷ [] → ListsBelow (Holds count) last n
    → AreLists Holds n lists count → AreLists Holds n more (count + 1)
one_list_more Holds n lists more count last same is are = record {
  size = omega (arith, ap length same, length-append lists (last ∷ []), are.size);
  each = λ one below. subst (λ l. ListsBelow (Holds one) (get_or l one []) n) (sym same) (one_of_lists Holds n lists count last one are is (cases_lt one count) below);
}

step_in : (Holds : ℕ → ℕ → Type 0) (n : ℕ) (lists : List (List ℕ)) (one other : ℕ) → AreLists Holds n lists n → (one < n) ⊎ (n ≤ one) → IsStep lists one other
    → (one < n) × (other < n) × Holds one other
step_in Holds n lists one other are (inl below) step = let h : (other < n) × Holds one other = (are.each one below other).0 step.1 in (below, h.0, h.1)
step_in Holds n lists one other are (inr past) step =
    let none : get_or lists one [] ≡ [] = get_or_past lists one [] (omega (arith, are.size)) in absurd (in_none other (subst (λ l. Contains l other) none step.1))

pub steps_are : (Holds : ℕ → ℕ → Type 0) (n : ℕ) (lists : List (List ℕ)) → AreLists Holds n lists n → (one other : ℕ)
    → IsStep lists one other ↔ ((one < n) × (other < n) × Holds one other)
steps_are Holds n lists are one other =
    (step_in Holds n lists one other are (cases_lt one n), λ h. (let below : other < n = h.1 in omega (arith, are.size), (are.each one h.0 other).1 (h.1, h.2)))

-- one place more
pub one_place_more : (IsTold : ℕ → List ℕ → Bool → Type 0) (n : ℕ) (old new front : List ℕ) (fails ends first : Bool) → IsTold n front first → new ≡ old ++ front
    → ends ≡ (fails || first) → OfEach IsTold n old fails → OfEach IsTold (n + 1) new ends
one_place_more IsTold n old new front fails ends first is text same before =
    subst (λ m. OfEach IsTold m new ends) (sym (add-one n)) (old, front, fails, first, before, is, text, same)

pub each_for : (IsTold AlsoTold : ℕ → List ℕ → Bool → Type 0) (n : ℕ) → ((place : ℕ) (text : List ℕ) (fails : Bool) → place < n → IsTold place text fails → AlsoTold place text fails)
    → (text : List ℕ) (fails : Bool) → OfEach IsTold n text fails → OfEach AlsoTold n text fails
each_for IsTold AlsoTold zero also text fails told = told
each_for IsTold AlsoTold (suc n) also text fails (front, rest, first, later, before, here, is, ends) =
    (front, rest, first, later, each_for IsTold AlsoTold n (λ place t f below told. also place t f (omega arith) told) front first before, also n rest later (omega arith) here, is, ends)

-- one name more of a list
pub listed_more : {X : Type 0} (f : X → List ℕ) (words : List ℕ) (xs : List X) (text middle after : List ℕ) (i : ℕ) (d : X) → i < length xs → middle ≡ text ++ words
    → after ≡ middle ++ shown_name (f (get_or xs i d))
    → after ++ listed (codes ", ") (map f (drop (i + 1) xs)) ≡ text ++ listed words (map f (drop i xs))
listed_more f words xs text middle after i d inside first second =
    let name = shown_name (f (get_or xs i d)) in
    let rest = listed (codes ", ") (map f (drop (i + 1) xs)) in
    ap (λ l. l ++ rest) (second ∙ ap (λ l. l ++ name) first) ∙ (append_assoc (text ++ words) name rest ∙ (append_assoc text words (name ++ rest)
    ∙ sym (ap (λ l. text ++ listed words (map f l)) (drop_more xs i d inside))))
