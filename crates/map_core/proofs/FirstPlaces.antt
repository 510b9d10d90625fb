-- Edits of the first element that passes a test, by its place.
use Rattle.std.proofs.Common.{◌≡◌, ℕ, zero, suc, ◌<◌, ◌≤◌, ltb, List, [], ◌∷◌, ◌++◌, Bool, true, false, cond, length, get_or, set, remove, Some, None, refl, sym, ap, ◌∙◌, arith}
use Rattle.std.specs.List.{position, position_or_len}
use Rattle.std.specs.Str.{bytes_eq}
use Rattle.std.proofs.lemmas.List.Quantifiers.{position-Some}
use Rattle.std.proofs.lemmas.List.Sums.{fails_before_first}
use Rattle.std.proofs.lemmas.Bool.Decides.{nat_tests}
use Rattle.map_core.specs.Map.{change_first, put_pair, without_pair, is_key}

none_cases : (b : Bool) (i : ℕ) → cond b (Some i) None ≡ None → b ≡ false
none_cases true i e = absurd (cc)
none_cases false i e = refl

-- where there is no place, each element fails
pub none_passes : {X : Type 0} (test : X → Bool) (xs : List X) → position test xs ≡ None → (d : X) (k : ℕ) → k < length xs → test (get_or xs k d) ≡ false
none_passes test xs e d k low =
    let past : ltb (position_or_len test xs) (length xs) ≡ false = none_cases (ltb (position_or_len test xs) (length xs)) (position_or_len test xs) e in
    let n : length xs ≤ position_or_len test xs = grind (arith, nat_tests) in
    fails_before_first test xs k d (omega arith)

module _ {X : Type 0} (test : X → Bool) (change : X → X) where
  set_first : (xs : List X) (i : ℕ) (d : X) → i < length xs → test (get_or xs i d) ≡ true → ((k : ℕ) → k < i → test (get_or xs k d) ≡ false) → set xs i (change (get_or xs i d)) ≡ change_first test change xs
  set_first [] i d h passes before = absurd (omega arith)
  set_first (x ∷ xs) zero d h passes before = ap (λ b. cond b (change x ∷ xs) (x ∷ change_first test change xs)) (sym passes)
  set_first (x ∷ xs) (suc i) d h passes before =
      ap (λ l. x ∷ l) (set_first xs i d (omega arith) passes (λ k low. before (suc k) (omega arith)))
      ∙ ap (λ b. cond b (change x ∷ xs) (x ∷ change_first test change xs)) (sym (before 0 (omega arith)))

  -- a write at the first place
  pub change_first_at : (xs : List X) (i : ℕ) (x : X) → position test xs ≡ Some i → x ≡ get_or xs i x → set xs i (change x) ≡ change_first test change xs
  change_first_at xs i x e at =
      let found = position-Some test xs i x e in
      ap (λ y. set xs i (change y)) at ∙ set_first xs i x found.0 found.1 found.2

  unchanged : (xs : List X) (d : X) → ((k : ℕ) → k < length xs → test (get_or xs k d) ≡ false) → change_first test change xs ≡ xs
  unchanged [] d fails = refl
  unchanged (x ∷ xs) d fails = ap (λ b. cond b (change x ∷ xs) (x ∷ change_first test change xs)) (fails 0 (omega arith)) ∙ ap (λ l. x ∷ l) (unchanged xs d (λ k low. fails (suc k) (omega arith)))

  -- no element passes
  pub change_first_none : (xs : List X) → position test xs ≡ None → change_first test change xs ≡ xs
  change_first_none [] e = refl
  change_first_none (x ∷ xs) e = unchanged (x ∷ xs) x (none_passes test (x ∷ xs) e x)

-- a key that is there gets the value at its place, and another stands last
put_first : (key value : List ℕ) (pairs : List (List ℕ × List ℕ)) (i : ℕ) (d : List ℕ × List ℕ) → i < length pairs → bytes_eq (get_or pairs i d).0 key ≡ true → ((k : ℕ) → k < i → bytes_eq (get_or pairs k d).0 key ≡ false)
    → set pairs i ((get_or pairs i d).0, value) ≡ put_pair key value pairs
put_first key value [] i d h passes before = absurd (omega arith)
put_first key value (pair ∷ pairs) zero d h passes before = ap (λ b. cond b ((pair.0, value) ∷ pairs) (pair ∷ put_pair key value pairs)) (sym passes)
put_first key value (pair ∷ pairs) (suc i) d h passes before =
    ap (λ l. pair ∷ l) (put_first key value pairs i d (omega arith) passes (λ k low. before (suc k) (omega arith)))
    ∙ ap (λ b. cond b ((pair.0, value) ∷ pairs) (pair ∷ put_pair key value pairs)) (sym (before 0 (omega arith)))

pub put_pair_at : (key value : List ℕ) (pairs : List (List ℕ × List ℕ)) (i : ℕ) (x : List ℕ × List ℕ) → position (is_key key) pairs ≡ Some i → x ≡ get_or pairs i x → set pairs i (x.0, value) ≡ put_pair key value pairs
put_pair_at key value pairs i x e at =
    let found = position-Some (is_key key) pairs i x e in
    ap (λ (y : List ℕ × List ℕ). set pairs i (y.0, value)) at ∙ put_first key value pairs i x found.0 found.1 found.2

put_last : (key value : List ℕ) (pairs : List (List ℕ × List ℕ)) (d : List ℕ × List ℕ) → ((k : ℕ) → k < length pairs → bytes_eq (get_or pairs k d).0 key ≡ false) → pairs ++ (key, value) ∷ [] ≡ put_pair key value pairs
put_last key value [] d fails = refl
put_last key value (pair ∷ pairs) d fails =
    ap (λ l. pair ∷ l) (put_last key value pairs d (λ k low. fails (suc k) (omega arith)))
    ∙ ap (λ b. cond b ((pair.0, value) ∷ pairs) (pair ∷ put_pair key value pairs)) (sym (fails 0 (omega arith)))

pub put_pair_none : (key value : List ℕ) (pairs : List (List ℕ × List ℕ)) → position (is_key key) pairs ≡ None → pairs ++ (key, value) ∷ [] ≡ put_pair key value pairs
put_pair_none key value pairs e = put_last key value pairs ([], []) (none_passes (is_key key) pairs e ([], []))

remove_first : (key : List ℕ) (pairs : List (List ℕ × List ℕ)) (i : ℕ) (d : List ℕ × List ℕ) → i < length pairs → bytes_eq (get_or pairs i d).0 key ≡ true → ((k : ℕ) → k < i → bytes_eq (get_or pairs k d).0 key ≡ false)
    → remove pairs i ≡ without_pair key pairs
remove_first key [] i d h passes before = absurd (omega arith)
remove_first key (pair ∷ pairs) zero d h passes before = ap (λ b. cond b pairs (pair ∷ without_pair key pairs)) (sym passes)
remove_first key (pair ∷ pairs) (suc i) d h passes before =
    ap (λ l. pair ∷ l) (remove_first key pairs i d (omega arith) passes (λ k low. before (suc k) (omega arith)))
    ∙ ap (λ b. cond b pairs (pair ∷ without_pair key pairs)) (sym (before 0 (omega arith)))

-- a key that is there goes, and without it nothing does
pub without_pair_at : (key : List ℕ) (pairs : List (List ℕ × List ℕ)) (i : ℕ) → position (is_key key) pairs ≡ Some i → remove pairs i ≡ without_pair key pairs
without_pair_at key pairs i e =
    let found = position-Some (is_key key) pairs i ([], []) e in
    remove_first key pairs i ([], []) found.0 found.1 found.2

stays : (key : List ℕ) (pairs : List (List ℕ × List ℕ)) (d : List ℕ × List ℕ) → ((k : ℕ) → k < length pairs → bytes_eq (get_or pairs k d).0 key ≡ false) → pairs ≡ without_pair key pairs
stays key [] d fails = refl
stays key (pair ∷ pairs) d fails =
    ap (λ l. pair ∷ l) (stays key pairs d (λ k low. fails (suc k) (omega arith)))
    ∙ ap (λ b. cond b pairs (pair ∷ without_pair key pairs)) (sym (fails 0 (omega arith)))

pub without_pair_none : (key : List ℕ) (pairs : List (List ℕ × List ℕ)) → position (is_key key) pairs ≡ None → pairs ≡ without_pair key pairs
without_pair_none key pairs e = stays key pairs ([], []) (none_passes (is_key key) pairs e ([], []))
