-- The map's words, seen on the list of users.
use Rattle.std.proofs.Common.{◌≡◌, ℕ, ◌+◌, List, [], ◌∷◌, ◌++◌, Bool, true, false, cond, Option, Some, is_some, String, string_bytes, length, map, refl, sym, ap, ◌∙◌, subst, append-nil}
use Rattle.std.proofs.lemmas.List.{length-map}
use Rattle.std.specs.declared.alloc.Global.{Global}
use Rattle.std.specs.declared.cmp.Ordering.{Ordering}
use Rattle.std.specs.declared.cmp.Ordering.TheVariants.{Less, Equal, Greater}
use Rattle.std.specs.Map.{lookup, remove_entry, keys_of}
use Rattle.std.specs.BTreeMap.{insert_entry}
use Rattle.std.specs.Ordering.{match_ordering, nat_cmp}
use Rattle.std.specs.Cmp.Lexicographic.{slice_cmp}
use Rattle.std.specs.List.{AllByRecursion}
use Rattle.std.specs.List.Sorted.{IsStrictlySortedBy}
use Rattle.auth_db.specs.Entries.{Entries, users_of}
use Rattle.auth_db.specs.Users.{Users, is_name, has_user}
use Rattle.auth_db.specs.declared.caps.Caps.{Caps}

pub lookup-users_of : (test : List ℕ → Bool) (es : Entries) → lookup (λ (k : String Global). test (string_bytes k)) es ≡ lookup test (users_of es)
lookup-users_of test [] = refl
lookup-users_of test (e ∷ es) = ap (cond (test (string_bytes e.0)) (Some e.1)) (lookup-users_of test es)

removed_by : (b : Bool) (e : String Global × Caps) (es rest : Entries) (others : Users) → users_of rest ≡ others → users_of (cond b es (e ∷ rest)) ≡ cond b (users_of es) ((string_bytes e.0, e.1) ∷ others)
removed_by true e es rest others h = refl
removed_by false e es rest others h = ap (λ l. (string_bytes e.0, e.1) ∷ l) h

pub users_of-remove_entry : (test : List ℕ → Bool) (es : Entries) → users_of (remove_entry (λ (k : String Global). test (string_bytes k)) es) ≡ remove_entry test (users_of es)
users_of-remove_entry test [] = refl
users_of-remove_entry test (e ∷ es) = removed_by (test (string_bytes e.0)) e es _ _ (users_of-remove_entry test es)

inserted_by : (o : Ordering) (a b c : Entries) (a' b' c' : Users) → users_of a ≡ a' → users_of b ≡ b' → users_of c ≡ c' → users_of (match_ordering o a b c) ≡ match_ordering o a' b' c'
inserted_by Less a b c a' b' c' h i j = h
inserted_by Equal a b c a' b' c' h i j = i
inserted_by Greater a b c a' b' c' h i j = j

pub users_of-insert_entry : (R : List ℕ → List ℕ → Ordering) (es : Entries) (k : String Global) (caps : Caps) → users_of (insert_entry (λ (a b : String Global). R (string_bytes a) (string_bytes b)) es k caps) ≡ insert_entry R (users_of es) (string_bytes k) caps
users_of-insert_entry R [] k caps = refl
users_of-insert_entry R (e ∷ es) k caps = inserted_by (R (string_bytes k) (string_bytes e.0)) _ _ _ _ _ _ refl refl (ap (λ l. (string_bytes e.0, e.1) ∷ l) (users_of-insert_entry R es k caps))

-- keys in the map's order are names in the order of their bytes
below : {A B : Type 0} (f : A → B) (P : B → Type 0) (xs : List A) → AllByRecursion (λ x. P (f x)) xs → AllByRecursion P (map f xs)
below f P [] h = h
below f P (x ∷ xs) h = (h.0, below f P xs h.1)

pub sorted-map : {A B : Type 0} (f : A → B) (R : B → B → Ordering) (xs : List A) → IsStrictlySortedBy (λ a b. R (f a) (f b)) xs → IsStrictlySortedBy R (map f xs)
unfolding IsStrictlySortedBy
sorted-map f R [] h = h
sorted-map f R (x ∷ xs) h = (below f (λ y. R (f x) y ≡ Less) xs h.0, sorted-map f R xs h.1)

-- how many users there are after an insertion
pub length-put : (olds news : Entries) (key : String Global) (name : List ℕ) (found : Option Caps) → string_bytes key ≡ name
    → found ≡ lookup (λ (k : String Global). is_name (string_bytes key) (string_bytes k)) olds → length news ≡ length olds + cond (is_some found) 0 1
    → length (users_of news) ≡ length (users_of olds) + cond (has_user (users_of olds) name) 0 1
length-put olds news key name found key_is found_is len =
    length-map news (λ e. (string_bytes e.0, e.1)) ∙ len ∙ ap (λ n. n + cond (is_some found) 0 1) (sym (length-map olds (λ e. (string_bytes e.0, e.1))))
    ∙ ap (λ b. length (users_of olds) + cond b 0 1) (ap is_some (found_is ∙ lookup-users_of (is_name (string_bytes key)) olds) ∙ ap (λ n. has_user (users_of olds) n) key_is)

-- the users' names are the map's keys
keys-users_of : (es : Entries) → keys_of (users_of es) ≡ map string_bytes (keys_of es)
keys-users_of [] = refl
keys-users_of (e ∷ es) = ap (λ l. string_bytes e.0 ∷ l) (keys-users_of es)

pub sorted_names : (es : Entries) → IsStrictlySortedBy (λ (a b : String Global). slice_cmp nat_cmp (string_bytes a) (string_bytes b)) (keys_of es) → IsStrictlySortedBy (slice_cmp nat_cmp) (keys_of (users_of es))
sorted_names es h = subst (IsStrictlySortedBy (slice_cmp nat_cmp)) (sym (keys-users_of es)) (sorted-map string_bytes (slice_cmp nat_cmp) (keys_of es) h)

-- the names that were read, once none is left
pub all_names : (front : List (List ℕ)) (rest : List (String Global)) (es : Entries) → rest ≡ [] → front ++ map string_bytes rest ≡ map string_bytes (keys_of es) → front ≡ keys_of (users_of es)
all_names front rest es none read = sym (append-nil front) ∙ ap (λ r. front ++ map string_bytes r) (sym none) ∙ read ∙ sym (keys-users_of es)
