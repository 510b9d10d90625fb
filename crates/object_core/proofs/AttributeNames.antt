-- Names of attributes differ, whatever is set and removed.
use Rattle.std.proofs.Common.{◌≡◌, ◌≢◌, ℕ, zero, suc, ◌+◌, ◌<◌, ◌≤◌, ltb, List, [], ◌∷◌, ◌++◌, Bool, true, false, cond, length, get_or, set, remove, length-set, length-append, Some, None, All, is_some, nat_lt, ◌||◌, inl, inr, refl, sym, ap, ◌∙◌, arith}
use Rattle.std.specs.List.{AllPairs, position, position_or_len}
use Rattle.std.specs.Str.{bytes_eq}
use Rattle.std.proofs.lemmas.Bool.{false≢true, cases_lt}
use Rattle.std.proofs.lemmas.Bool.Decides.{nat_tests}
use Rattle.std.proofs.lemmas.Slice.Eq.{bytes_eq-Decides}
use Rattle.std.proofs.lemmas.List.Edits.{length-remove, get_or-remove_below, get_or-remove_above}
use Rattle.std.proofs.lemmas.List.Elements.{All-set, All-push}
use Rattle.std.proofs.lemmas.List.Kept.{AllPairs-cons}
use Rattle.std.proofs.lemmas.List.Quantifiers.{position-Some, all_pairs_push, all_pairs_remove}
use Rattle.std.proofs.lemmas.List.Sums.{fails_before_first}
use Rattle.object_core.specs.Content.{AreAttributes, IsAttribute, place_of, has_room}

abbrev pub Attribute : Type 0
Attribute = List ℕ × List ℕ

abbrev pub Differ : Attribute → Attribute → Type 0
Differ a b = a.0 ≢ b.0

abbrev pub has_name : List ℕ → Attribute → Bool
has_name name a = bytes_eq a.0 name

-- a value in its name's place
set_differ : (attributes : List Attribute) (place : ℕ) (a : Attribute) → place < length attributes → (get_or attributes place a).0 ≡ a.0 → AllPairs Differ attributes → AllPairs Differ (set attributes place a)
set_differ [] place a inside same h = h
set_differ (x ∷ rest) zero a inside same h = AllPairs-cons Differ a rest (λ k d low e. h 0 (suc k) d (omega arith) (omega arith) (same ∙ e)) (λ i j d low high. h (suc i) (suc j) d (omega arith) (omega arith))
set_differ (x ∷ rest) (suc place) a inside same h =
    let tail : AllPairs Differ rest = λ i j d low high. h (suc i) (suc j) d (omega arith) (omega arith) in
    let head : All (Differ x) rest = λ k d low. h 0 (suc k) d (omega arith) (omega arith) in
    let new : Differ x a = λ e. head place a (omega arith) (e ∙ sym same) in
    AllPairs-cons Differ x (set rest place a) (All-set (Differ x) rest place a new head) (set_differ rest place a (omega arith) same tail)

none_cases : (b : Bool) (i : ℕ) → cond b (Some i) None ≡ None → b ≡ false
none_cases true i e = absurd (cc)
none_cases false i e = refl

-- where there is no place, each element fails
none_passes : (test : Attribute → Bool) (xs : List Attribute) → position test xs ≡ None → (k : ℕ) (d : Attribute) → k < length xs → test (get_or xs k d) ≡ false
none_passes test xs e k d low =
    let past : ltb (position_or_len test xs) (length xs) ≡ false = none_cases (ltb (position_or_len test xs) (length xs)) (position_or_len test xs) e in
    let n : length xs ≤ position_or_len test xs = grind (arith, nat_tests) in
    fails_before_first test xs k d (omega arith)

-- what one setting and one removal leave
pub set_in_place : (attributes : List Attribute) (name value : List ℕ) (place : ℕ) → AreAttributes attributes → IsAttribute (name, value) → place_of name attributes ≡ Some place → AreAttributes (set attributes place (name, value))
set_in_place attributes name value place h within at =
    let found = position-Some (has_name name) attributes place (name, value) at in
    record {
      few = omega (arith, length-set attributes place (name, value), h.few);
      each = All-set IsAttribute attributes place (name, value) within h.each;
      distinct = set_differ attributes place (name, value) found.0 ((bytes_eq-Decides (get_or attributes place (name, value)).0 name).0 found.1) h.distinct;
    }

pub set_at_end : (attributes : List Attribute) (name value : List ℕ) → AreAttributes attributes → IsAttribute (name, value) → length attributes < 16 → place_of name attributes ≡ None → AreAttributes (attributes ++ (name, value) ∷ [])
set_at_end attributes name value h within room none = record {
  few = omega (arith, length-append attributes ((name, value) ∷ []), room);
  each = All-push IsAttribute attributes (name, value) h.each within;
  distinct = all_pairs_push Differ attributes (name, value) h.distinct
      (λ k d low e. false≢true (sym (none_passes (has_name name) attributes none k d low) ∙ (bytes_eq-Decides (get_or attributes k d).0 name).1 e));
}

pub remove_one : (attributes : List Attribute) (place : ℕ) → place < length attributes → AreAttributes attributes → AreAttributes (remove attributes place)
remove_one attributes place inside h = record {
  few = omega (arith, length-remove attributes place inside, h.few);
  each = λ k d low. elim (cases_lt k place) as (λ c. IsAttribute (get_or (remove attributes place) k d)) [
    | inl below ↦ rw (get_or-remove_below attributes place d k below inside) (h.each k d (omega arith))
    | inr above ↦ rw (get_or-remove_above attributes place d k above inside) (h.each (k + 1) d (omega (arith, length-remove attributes place inside, low)))
  ];
  distinct = all_pairs_remove Differ attributes place inside h.distinct;
}

-- a new name for which there is room
pub room_at_end : (attributes : List Attribute) (name : List ℕ) → has_room name attributes ≡ true → place_of name attributes ≡ None → length attributes < 16
room_at_end attributes name room none =
    let fewer : nat_lt (length attributes) 16 ≡ true = sym (ap (λ o. is_some o || nat_lt (length attributes) 16) none) ∙ room in
    grind (arith, nat_tests)
