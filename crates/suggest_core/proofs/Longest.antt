-- No beginning of ASCII bytes that all names seen in a place have is longer than the common one.
use Rattle.std.proofs.Common.{◌≡◌, ℕ, List, [], ◌∷◌, Bool, true, false, not, ◌&&◌, cond, eqb, nat_eq, nat_le, length, Option, Some, None, refl, sym, subst}
use Rattle.std.specs.List.{list_all, list_any, starts_with, Contains}
use Rattle.std.specs.Str.{bytes_eq}
use Rattle.std.proofs.lemmas.Bool.{false≢true, eqb-true}
use Rattle.request_types.specs.Target.{Target}
use Rattle.compare_core.proofs.Bools.{both, both_left, both_right}
use Rattle.suggest_core.specs.declared.grain.Division.{Division}
use Rattle.suggest_core.specs.declared.grain.Division.TheVariants as by
use Rattle.suggest_core.specs.declared.seen.Seen.{Seen}
use Rattle.suggest_core.specs.Region.{common, common_in, prefix_of, useful, with_name}
use Rattle.suggest_core.proofs.Members.{contains_first, contains_later}

abbrev Ascii : List ℕ → Type 0
Ascii text = list_all (λ byte. nat_le byte 127) text ≡ true

both_begin : (a b other : List ℕ) → Ascii other → starts_with nat_eq a other ≡ true → starts_with nat_eq b other ≡ true → starts_with nat_eq (common a b) other ≡ true
both_begin a b [] ascii h k = refl
both_begin [] b (z ∷ other) ascii h k = absurd (false≢true h)
both_begin (x ∷ a) [] (z ∷ other) ascii h k = absurd (false≢true k)
both_begin (x ∷ a) (y ∷ b) (z ∷ other) ascii h k =
    let zx : z ≡ x = eqb-true z x (both_left (eqb z x) _ h) in
    let small : nat_le x 127 ≡ true = subst (λ n. nat_le n 127 ≡ true) zx (both_left (nat_le z 127) _ ascii) in
    let same : eqb x y ≡ true = subst (λ n. eqb n y ≡ true) zx (both_left (eqb z y) _ k) in
    let rest : starts_with nat_eq (common a b) other ≡ true =
    both_begin a b other (both_right (nat_le z 127) _ ascii) (both_right (eqb z x) _ h) (both_right (eqb z y) _ k) in
    subst (λ t. starts_with nat_eq (cond t (x ∷ common a b) []) (z ∷ other) ≡ true) (sym (both (eqb x y) (nat_le x 127) same small))
    (both (eqb z x) _ (both_left (eqb z x) _ h) rest)

with_begins : (front : Option (List ℕ)) (name other : List ℕ) → Ascii other → ((g : List ℕ) → front ≡ Some g → starts_with nat_eq g other ≡ true) → starts_with nat_eq name other ≡ true → starts_with nat_eq (with_name front name) other ≡ true
with_begins None name other ascii h k = both_begin name name other ascii k k
with_begins (Some g) name other ascii h k = both_begin g name other ascii (h g refl) k

some_same : {X : Type 0} {a b : X} → Some a ≡ Some b → a ≡ b
some_same e = cc

abbrev Begins : (Target → Bool) → List Seen → Option (List ℕ) → List ℕ → List ℕ → Type 0
Begins there seen front found other =
    common_in there front seen ≡ Some found → Ascii other → ((g : List ℕ) → front ≡ Some g → starts_with nat_eq g other ≡ true)
    → ((request : Seen) → Contains seen request → there request.target ≡ true → starts_with nat_eq request.target.object other ≡ true) → starts_with nat_eq found other ≡ true

begins_all : (there : Target → Bool) (seen : List Seen) (front : Option (List ℕ)) (found other : List ℕ) → Begins there seen front found other
begins_all there [] front found other is ascii h each = h found is
begins_all there (first ∷ seen) front found other is ascii h each =
    go (there first.target) refl is (begins_all there seen (Some (with_name front first.target.object)) found other) (begins_all there seen front found other)
  where
    later : (request : Seen) → Contains seen request → there request.target ≡ true → starts_with nat_eq request.target.object other ≡ true
    later request k inside = each request (contains_later first request seen k) inside

    go : (t : Bool) → there first.target ≡ t → common_in there (cond t (Some (with_name front first.target.object)) front) seen ≡ Some found
        → Begins there seen (Some (with_name front first.target.object)) found other → Begins there seen front found other → starts_with nat_eq found other ≡ true
    go true inside found_is named same_front =
        let now : starts_with nat_eq (with_name front first.target.object) other ≡ true = with_begins front first.target.object other ascii h (each first (contains_first first seen) inside) in
        named found_is ascii
        (λ g same. subst (λ (f : List ℕ). starts_with nat_eq f other ≡ true) (some_same same) now) later
    go false inside found_is named same_front = same_front found_is ascii h later

useful_is : (there : Target → Bool) (seen : List Seen) (front : Option (List ℕ)) (prefix : List ℕ) → useful there seen front ≡ Some prefix → front ≡ Some prefix
useful_is there seen None prefix is = absurd (cc)
useful_is there seen (Some front) prefix is = go (not (eqb (length front) 0) && list_any (λ (request : Seen). there request.target && not (bytes_eq front request.target.object)) seen) is
  where
    go : (t : Bool) → cond t (Some front) None ≡ Some prefix → Some front ≡ Some prefix
    go true h = h
    go false h = absurd (cc)

-- the prefix of a place is the longest that fits
pub prefix_longest : (division : Division) (there : Target → Bool) (seen : List Seen) (prefix other : List ℕ) → prefix_of division there seen ≡ Some prefix → list_all (λ byte. nat_le byte 127) other ≡ true
    → ((request : Seen) → Contains seen request → there request.target ≡ true → starts_with nat_eq request.target.object other ≡ true) → starts_with nat_eq prefix other ≡ true
prefix_longest by.Pool there seen prefix other is ascii each = absurd (cc)
prefix_longest by.Namespace there seen prefix other is ascii each = absurd (cc)
prefix_longest by.Prefix there seen prefix other is ascii each =
    begins_all there seen None prefix other (useful_is there seen (common_in there None seen) prefix is) ascii (λ g same. absurd (cc)) each
