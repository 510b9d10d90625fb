-- Sets of texts, in a tree and as a map.
use Rattle.std.proofs.Common.{◌≡◌, ℕ, List, [], ◌∷◌, ◌++◌, Bool, true, false, ◌||◌, cond, Option, Some, None, String, string_bytes, length, map, refl, sym, ap, ◌∙◌, append-nil, arith}
use Rattle.std.specs.List.{AllByRecursion}
use Rattle.std.specs.List.Sorted.{IsStrictlySortedBy}
use Rattle.std.specs.BTreeSet.{insert_key}
use Rattle.std.specs.FinMap.{empty, get, keys, entries, from_entries, find, put, get-insert, get-from_entries, entries-insert, len-empty, len-entries, same_map, slice_cmp-IsAntisymmetric, nat_cmp-IsAntisymmetric, IsAntisymmetric}
use Rattle.std.specs.FinMap.Entries.{by_order}
use Rattle.std.specs.Ordering.{match_ordering, eq_by_cmp}
use Rattle.std.specs.Cmp.Lexicographic.{nat_list_cmp_total}
use Rattle.std.specs.declared.alloc.Global.{Global}
use Rattle.std.specs.declared.cmp.Ordering.{Ordering}
use Rattle.std.specs.declared.cmp.Ordering.TheVariants.{Less, Equal, Greater}
use Rattle.store_core.specs.Store.{bytes_cmp}
use Rattle.store_core.specs.ListedTexts.{Texts, texts_of, marked_text, with_text}

or_swap : (a b c : Bool) → (a || (b || c)) ≡ (b || (a || c))
or_swap true true c = refl
or_swap true false c = refl
or_swap false b c = refl

or_same : (a b c : Bool) → a ≡ b → (a || c) ≡ (b || (a || c))
or_same true true c h = refl
or_same true false c h = absurd (cc)
or_same false true c h = absurd (cc)
or_same false false c h = refl

pub bytes_apart : IsAntisymmetric bytes_cmp
bytes_apart = slice_cmp-IsAntisymmetric nat_cmp-IsAntisymmetric

-- a test of bytes over texts
abbrev any : (List ℕ → Bool) → List (String Global) → Bool
any t [] = false
any t (x ∷ xs) = t (string_bytes x) || any t xs

abbrev texts_cmp : String Global → String Global → Ordering
texts_cmp a b = bytes_cmp (string_bytes a) (string_bytes b)

inserted_by : (o : Ordering) (t : List ℕ → Bool) (k x : String Global) (xs rest : List (String Global)) → (o ≡ Equal → string_bytes k ≡ string_bytes x) → any t rest ≡ (t (string_bytes k) || any t xs)
    → any t (match_ordering o (k ∷ x ∷ xs) (x ∷ xs) (x ∷ rest)) ≡ (t (string_bytes k) || (t (string_bytes x) || any t xs))
inserted_by Less t k x xs rest same h = refl
inserted_by Equal t k x xs rest same h = or_same (t (string_bytes x)) (t (string_bytes k)) (any t xs) (ap t (sym (same refl)))
inserted_by Greater t k x xs rest same h = ap (λ b. t (string_bytes x) || b) h ∙ or_swap (t (string_bytes x)) (t (string_bytes k)) (any t xs)

any-insert_key : (t : List ℕ → Bool) (k : String Global) (xs : List (String Global)) → any t (insert_key texts_cmp xs k) ≡ (t (string_bytes k) || any t xs)
any-insert_key t k [] = refl
any-insert_key t k (x ∷ xs) = inserted_by (texts_cmp k x) t k x xs _ (bytes_apart (string_bytes k) (string_bytes x)) (any-insert_key t k xs)

abbrev pub marked : Bool → Option (Unit {0})
marked b = cond b (Some tt) None

pub marked_or : (a b : Bool) → cond a (Some tt) (marked b) ≡ marked (a || b)
marked_or true b = refl
marked_or false b = refl

find-any : (q : List ℕ) (xs : List (String Global)) → find bytes_cmp q (map (λ t. marked_text (string_bytes t)) xs) ≡ marked (any (eq_by_cmp bytes_cmp q) xs)
find-any q [] = refl
find-any q (x ∷ xs) = ap (cond (eq_by_cmp bytes_cmp q (string_bytes x)) (Some tt)) (find-any q xs) ∙ marked_or (eq_by_cmp bytes_cmp q (string_bytes x)) (any (eq_by_cmp bytes_cmp q) xs)

get-texts_of : (q : List ℕ) (xs : List (String Global)) → get (texts_of xs) q ≡ marked (any (eq_by_cmp bytes_cmp q) xs)
get-texts_of q xs = get-from_entries nat_list_cmp_total _ q ∙ find-any q xs

pub texts_add : (xs ys : List (String Global)) (k : String Global) → ys ≡ insert_key texts_cmp xs k → texts_of ys ≡ with_text (texts_of xs) (string_bytes k)
texts_add xs ys k h =
    same_map nat_list_cmp_total bytes_apart _ _
    (λ q. get-texts_of q ys ∙ ap (λ l. marked (any (eq_by_cmp bytes_cmp q) l)) h ∙ ap marked (any-insert_key (eq_by_cmp bytes_cmp q) k xs)
    ∙ sym (get-insert nat_list_cmp_total (texts_of xs) (string_bytes k) tt q ∙ ap (cond (eq_by_cmp bytes_cmp q (string_bytes k)) (Some tt)) (get-texts_of q xs) ∙ marked_or (eq_by_cmp bytes_cmp q (string_bytes k)) (any (eq_by_cmp bytes_cmp q) xs)))

-- the keys of a set that was made of a list in order are that list
first_by : (o : Ordering) (x y : List ℕ) (ys : List (List ℕ)) → o ≡ Less → match_ordering o (x ∷ y ∷ ys) (y ∷ ys) (y ∷ insert_key bytes_cmp ys x) ≡ x ∷ y ∷ ys
first_by Less x y ys h = refl
first_by Equal x y ys h = absurd (cc)
first_by Greater x y ys h = absurd (cc)

insert_first : (x : List ℕ) (ys : List (List ℕ)) → AllByRecursion (λ y. bytes_cmp x y ≡ Less) ys → insert_key bytes_cmp ys x ≡ x ∷ ys
insert_first x [] h = refl
insert_first x (y ∷ ys) h = first_by (bytes_cmp x y) x y ys h.0

abbrev Marks : Type 0
Marks = List (List ℕ × Unit {0})

abbrev firsts : Marks → List (List ℕ)
firsts es = map (λ (e : List ℕ × Unit {0}). e.0) es

keys_put_by : (o : Ordering) (k : List ℕ) (e : List ℕ × Unit {0}) (es rest : Marks) (ks : List (List ℕ)) → firsts rest ≡ ks
    → firsts (by_order o (marked_text k ∷ e ∷ es) (marked_text e.0 ∷ es) (e ∷ rest)) ≡ match_ordering o (k ∷ e.0 ∷ firsts es) (e.0 ∷ firsts es) (e.0 ∷ ks)
keys_put_by Less k e es rest ks h = refl
keys_put_by Equal k e es rest ks h = refl
keys_put_by Greater k e es rest ks h = ap (λ l. e.0 ∷ l) h

keys_put : (k : List ℕ) (es : Marks) → firsts (put bytes_cmp k tt es) ≡ insert_key bytes_cmp (firsts es) k
keys_put k [] = refl
keys_put k (e ∷ es) = keys_put_by (bytes_cmp k e.0) k e es _ _ (keys_put k es)

keys-with_text : (m : Texts) (k : List ℕ) → keys (with_text m k) ≡ insert_key bytes_cmp (keys m) k
keys-with_text m k = ap firsts (entries-insert nat_list_cmp_total m k tt) ∙ keys_put k (entries m)

no_marks : (es : Marks) → length es ≡ 0 → firsts es ≡ []
no_marks [] h = refl
no_marks (e ∷ es) h = absurd (omega arith)

keys-empty : keys (empty {X = Unit {0}} {R = bytes_cmp}) ≡ []
keys-empty = no_marks (entries (empty {X = Unit {0}} {R = bytes_cmp})) (sym (len-entries (empty {X = Unit {0}} {R = bytes_cmp})) ∙ len-empty bytes_cmp (Unit {0}))

abbrev pub set_of : List (List ℕ) → Texts
set_of xs = from_entries (map marked_text xs)

pub keys-sorted : (xs : List (List ℕ)) → IsStrictlySortedBy bytes_cmp xs → keys (set_of xs) ≡ xs
unfolding IsStrictlySortedBy
keys-sorted [] h = keys-empty
keys-sorted (x ∷ xs) h = keys-with_text (set_of xs) x ∙ ap (λ l. insert_key bytes_cmp l x) (keys-sorted xs h.1) ∙ insert_first x xs h.0

-- the same of the texts in a tree
set_of-texts : (xs : List (String Global)) → texts_of xs ≡ set_of (map string_bytes xs)
set_of-texts [] = refl
set_of-texts (x ∷ xs) = ap (λ m. with_text m (string_bytes x)) (set_of-texts xs)

below : (x : String Global) (xs : List (String Global)) → AllByRecursion (λ y. texts_cmp x y ≡ Less) xs → AllByRecursion (λ y. bytes_cmp (string_bytes x) y ≡ Less) (map string_bytes xs)
below x [] h = h
below x (y ∷ ys) h = (h.0, below x ys h.1)

sorted_texts : (xs : List (String Global)) → IsStrictlySortedBy texts_cmp xs → IsStrictlySortedBy bytes_cmp (map string_bytes xs)
unfolding IsStrictlySortedBy
sorted_texts [] h = h
sorted_texts (x ∷ xs) h = (below x xs h.0, sorted_texts xs h.1)

pub keys-texts_of : (xs : List (String Global)) → IsStrictlySortedBy texts_cmp xs → keys (texts_of xs) ≡ map string_bytes xs
keys-texts_of xs h = ap keys (set_of-texts xs) ∙ keys-sorted (map string_bytes xs) (sorted_texts xs h)

-- the texts that were read, once none is left
pub all_texts : (front : List (List ℕ)) (rest start xs : List (String Global)) → rest ≡ [] → front ++ map string_bytes rest ≡ map string_bytes start → start ≡ xs → IsStrictlySortedBy texts_cmp xs → front ≡ keys (texts_of xs)
all_texts front rest start xs none read is sorted =
    sym (append-nil front) ∙ ap (λ r. front ++ map string_bytes r) (sym none) ∙ read ∙ ap (map string_bytes) is ∙ sym (keys-texts_of xs sorted)
