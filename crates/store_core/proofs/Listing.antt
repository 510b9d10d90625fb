-- The names that a listing piece has.
use Rattle.std.proofs.Common.{◌≡◌, ℕ, List, [], ◌∷◌, Bool, true, false, ◌||◌, ◌&&◌, cond, Option, Some, None, is_some, map, T, refl, sym, ap, ◌∙◌}
use Rattle.std.specs.Arc.{arc_value}
use Rattle.std.specs.Option.{option_map}
use Rattle.std.specs.List.{list_any, filter, AllByRecursion}
use Rattle.std.specs.List.Sorted.{IsStrictlySortedBy}
use Rattle.std.specs.Map.{lookup, keys_of}
use Rattle.std.specs.FinMap.{empty, get, keys, entries, find, is_sorted, get-empty, get-insert, get-from_entries, entries_sorted, same_map, contains_key-keys}
use Rattle.std.specs.FinMap.Entries.{below_all}
use Rattle.std.specs.Ordering.{eq_by_cmp, is_eq, is_lt, ordering_then}
use Rattle.std.specs.Cmp.Lexicographic.{nat_list_cmp_total, nat_list_eq_equiv, texts_ties}
use Rattle.std.specs.Str.{bytes_eq}
use Rattle.std.specs.declared.cmp.Ordering.{Ordering}
use Rattle.std.specs.declared.cmp.Ordering.TheVariants.{Less, Equal, Greater}
use Rattle.std.proofs.lemmas.Map.Made.{is_some-lookup}
use Rattle.object_core.specs.Content.{Content}
use Rattle.store_core.specs.Request.{Sealed}
use Rattle.store_core.specs.Store.{Store, ObjectName, bytes_cmp, name_cmp}
use Rattle.store_core.specs.Names.{is_same, is_same-ties, is_same_equiv, same_from_is_same}
use Rattle.store_core.specs.Deciding.{is_listed, names_in}
use Rattle.store_core.specs.ListedTexts.{Texts, marked_text, with_text, collected}
use Rattle.store_core.specs.Objects.{StoredObjects, objects_of}
use Rattle.store_core.proofs.Stores.{get-objects_of}
use Rattle.store_core.proofs.TextSets.{bytes_apart, marked, marked_or, set_of, keys-sorted}

-- a test over two lists with the same elements
any_of_by : (b c q r : Bool) → (b ≡ true → c ≡ true) → (q ≡ true → r ≡ true) → (b || q) ≡ true → (c || r) ≡ true
any_of_by true c q r one more h = ap (λ d. d || r) (one refl)
any_of_by false true q r one more h = refl
any_of_by false false q r one more h = more h

any_of : (t : ObjectName → Bool) (x : ObjectName) (ys : List ObjectName) → t x ≡ true → list_any (is_same x) ys ≡ true → list_any t ys ≡ true
any_of t x [] tx h = h
any_of t x (y ∷ ys) tx h = any_of_by (is_same x y) (t y) (list_any (is_same x) ys) (list_any t ys) (λ s. ap t (sym (same_from_is_same x y s)) ∙ tx) (any_of t x ys tx) h

or_right : (a b : Bool) → b ≡ true → (a || b) ≡ true
or_right true b h = refl
or_right false b h = h

head_there : (x : ObjectName) (xs : List ObjectName) → list_any (is_same x) (x ∷ xs) ≡ true
head_there x xs = ap (λ b. b || list_any (is_same x) xs) (is_same_equiv.refl x)

moved_by : (b q r : Bool) → (b ≡ true → r ≡ true) → (q ≡ true → r ≡ true) → (b || q) ≡ true → r ≡ true
moved_by true q r one more h = one refl
moved_by false q r one more h = more h

any_moves : (t : ObjectName → Bool) (xs ys : List ObjectName) → ((q : ObjectName) → list_any (is_same q) xs ≡ true → list_any (is_same q) ys ≡ true) → list_any t xs ≡ true → list_any t ys ≡ true
any_moves t [] ys h one = absurd (cc)
any_moves t (x ∷ xs) ys h one =
    moved_by (t x) (list_any t xs) (list_any t ys) (λ tx. any_of t x ys tx (h x (head_there x xs)))
    (any_moves t xs ys (λ q r. h q (or_right (is_same q x) _ r))) one

both_ways : (a b : Bool) → (a ≡ true → b ≡ true) → (b ≡ true → a ≡ true) → a ≡ b
both_ways true b f g = sym (f refl)
both_ways false true f g = g refl
both_ways false false f g = refl

any_same : (t : ObjectName → Bool) (xs ys : List ObjectName) → ((q : ObjectName) → list_any (is_same q) xs ≡ list_any (is_same q) ys) → list_any t xs ≡ list_any t ys
any_same t xs ys h = both_ways _ _ (any_moves t xs ys (λ q r. sym (h q) ∙ r)) (any_moves t ys xs (λ q r. h q ∙ r))

any_ties : (q : ObjectName) (xs : List ObjectName) → list_any (is_same q) xs ≡ list_any (eq_by_cmp name_cmp q) xs
any_ties q [] = refl
any_ties q (x ∷ xs) = λ i. is_same-ties q x i || any_ties q xs i

is_some-map : {A B : Type 0} (f : A → B) (o : Option A) → is_some (option_map f o) ≡ is_some o
is_some-map f None = refl
is_some-map f (Some a) = refl

-- the hash map and the store have the same names
same_keys : (es : StoredObjects) (q : ObjectName) → list_any (is_same q) (keys_of es) ≡ list_any (is_same q) (keys (objects_of es))
same_keys es q =
    sym (is_some-lookup (is_same q) es) ∙ sym (is_some-map arc_value (lookup (is_same q) es)) ∙ ap is_some (sym (get-objects_of es q))
    ∙ contains_key-keys (objects_of es) q ∙ sym (any_ties q (keys (objects_of es)))

-- a name that is listed under this text
abbrev under : (ObjectName → Bool) → List ℕ → ObjectName → Bool
under p q n = p n && eq_by_cmp bytes_cmp q n.name

collected_by : (b c a : Bool) (o z : Option (Unit {0})) → z ≡ cond b (cond c (Some tt) o) o → cond a (Some tt) z ≡ cond ((b && c) || a) (Some tt) o
collected_by true true true o z h = refl
collected_by true true false o z h = h
collected_by true false true o z h = refl
collected_by true false false o z h = h
collected_by false c true o z h = refl
collected_by false c false o z h = h

get_if : (b : Bool) (m : Texts) (t q : List ℕ) → get (cond b (with_text m t) m) q ≡ cond b (cond (eq_by_cmp bytes_cmp q t) (Some tt) (get m q)) (get m q)
get_if true m t q = get-insert nat_list_cmp_total m t tt q
get_if false m t q = refl

get-collected : (p : ObjectName → Bool) (m : Texts) (ns : List ObjectName) (q : List ℕ) → get (collected p m ns) q ≡ cond (list_any (under p q) ns) (Some tt) (get m q)
get-collected p m [] q = refl
get-collected p m (n ∷ ns) q =
    get-collected p (cond (p n) (with_text m n.name) m) ns q
    ∙ collected_by (p n) (eq_by_cmp bytes_cmp q n.name) (list_any (under p q) ns) (get m q) _ (get_if (p n) m n.name q)

find-set_of : (q : List ℕ) (xs : List (List ℕ)) → find bytes_cmp q (map marked_text xs) ≡ marked (list_any (eq_by_cmp bytes_cmp q) xs)
find-set_of q [] = refl
find-set_of q (x ∷ xs) = ap (cond (eq_by_cmp bytes_cmp q x) (Some tt)) (find-set_of q xs) ∙ marked_or (eq_by_cmp bytes_cmp q x) (list_any (eq_by_cmp bytes_cmp q) xs)

filtered_by : (b : Bool) (q : List ℕ) (n : ObjectName) (rest : List ObjectName) (r : Bool) → list_any (eq_by_cmp bytes_cmp q) (map (λ m. m.name) rest) ≡ r
    → list_any (eq_by_cmp bytes_cmp q) (map (λ m. m.name) (cond b (n ∷ rest) rest)) ≡ ((b && eq_by_cmp bytes_cmp q n.name) || r)
filtered_by true q n rest r h = ap (λ c. eq_by_cmp bytes_cmp q n.name || c) h
filtered_by false q n rest r h = h

any-filter : (p : ObjectName → Bool) (q : List ℕ) (ns : List ObjectName) → list_any (eq_by_cmp bytes_cmp q) (map (λ m. m.name) (filter p ns)) ≡ list_any (under p q) ns
any-filter p q [] = refl
any-filter p q (n ∷ ns) = filtered_by (p n) q n (filter p ns) _ (any-filter p q ns)

-- ---- the order of the names

both_on : (a b : Bool) → (a && b) ≡ true → (a ≡ true) × (b ≡ true)
both_on true b h = (refl, h)
both_on false b h = absurd (cc)

apart_from : (o r : Ordering) → is_eq o ≡ true → ordering_then o r ≡ Less → r ≡ Less
apart_from Less r e h = absurd (cc)
apart_from Equal r e h = h
apart_from Greater r e h = absurd (cc)

less_by : (o : Ordering) → T (is_lt o) → o ≡ Less
less_by Less h = refl
less_by Equal h = absurd h
less_by Greater h = absurd h

first_T : (a b : Bool) → T (a && b) → T a
first_T true b h = tt
first_T false b h = absurd h

second_T : (a b : Bool) → T (a && b) → T b
second_T true b h = h
second_T false b h = absurd h

-- two texts that are both the same as a third
same_through : (x y z : List ℕ) → bytes_eq x z ≡ true → bytes_eq y z ≡ true → eq_by_cmp bytes_cmp x y ≡ true
same_through x y z xz yz = sym (texts_ties x y) ∙ nat_list_eq_equiv.congr x z y xz ∙ nat_list_eq_equiv.symm z y ∙ yz

in_order : (s : Sealed) (x y : ObjectName) → is_listed s x ≡ true → is_listed s y ≡ true → name_cmp x y ≡ Less → bytes_cmp x.name y.name ≡ Less
in_order s x y px py h =
    let fx = both_on (bytes_eq x.pool s.view.pool && bytes_eq x.namespace s.namespace) _ px in
    let fy = both_on (bytes_eq y.pool s.view.pool && bytes_eq y.namespace s.namespace) _ py in
    let gx = both_on (bytes_eq x.pool s.view.pool) _ fx.0 in
    let gy = both_on (bytes_eq y.pool s.view.pool) _ fy.0 in
    apart_from (bytes_cmp x.namespace y.namespace) _ (same_through x.namespace y.namespace s.namespace gx.1 gy.1)
    (apart_from (bytes_cmp x.pool y.pool) _ (same_through x.pool y.pool s.view.pool gx.0 gy.0) h)

abbrev Entries : Type 0
Entries = List (ObjectName × Content)

abbrev keys_in : Entries → List ObjectName
keys_in es = map (λ (e : ObjectName × Content). e.0) es

abbrev names_by : (ObjectName → Bool) → List ObjectName → List (List ℕ)
names_by p ns = map (λ n. n.name) (filter p ns)

above_by : (b : Bool) (x n : ObjectName) (rest : List ObjectName) → (b ≡ true → bytes_cmp x.name n.name ≡ Less) → AllByRecursion (λ y. bytes_cmp x.name y ≡ Less) (map (λ m. m.name) rest)
    → AllByRecursion (λ y. bytes_cmp x.name y ≡ Less) (map (λ m. m.name) (cond b (n ∷ rest) rest))
above_by true x n rest one more = (one refl, more)
above_by false x n rest one more = more

above : (s : Sealed) (x : ObjectName) (es : Entries) → is_listed s x ≡ true → T (below_all name_cmp x es) → AllByRecursion (λ y. bytes_cmp x.name y ≡ Less) (names_by (is_listed s) (keys_in es))
above s x [] px h = tt
above s x (e ∷ es) px h =
    above_by (is_listed s e.0) x e.0 (filter (is_listed s) (keys_in es)) (λ pe. in_order s x e.0 px pe (less_by (name_cmp x e.0) (first_T _ _ h)))
    (above s x es px (second_T (is_lt (name_cmp x e.0)) _ h))

sorted_by : (b : Bool) (n : ObjectName) (rest : List ObjectName) → (b ≡ true → AllByRecursion (λ y. bytes_cmp n.name y ≡ Less) (map (λ m. m.name) rest)) → IsStrictlySortedBy bytes_cmp (map (λ m. m.name) rest)
    → IsStrictlySortedBy bytes_cmp (map (λ m. m.name) (cond b (n ∷ rest) rest))
unfolding IsStrictlySortedBy
sorted_by true n rest one more = (one refl, more)
sorted_by false n rest one more = more

names-sorted : (s : Sealed) (es : Entries) → T (is_sorted name_cmp es) → IsStrictlySortedBy bytes_cmp (names_by (is_listed s) (keys_in es))
unfolding IsStrictlySortedBy
names-sorted s [] h = tt
names-sorted s (e ∷ es) h =
    sorted_by (is_listed s e.0) e.0 (filter (is_listed s) (keys_in es)) (λ pe. above s e.0 es pe (first_T _ _ h)) (names-sorted s es (second_T (below_all name_cmp e.0 es) _ h))

pub names_in-sorted : (store : Store) (s : Sealed) → IsStrictlySortedBy bytes_cmp (names_in store s)
unfolding names_in
names_in-sorted store s = names-sorted s (entries store) (entries_sorted store)

-- the names that were collected from the hash map are those of the piece
same_sets : (p : ObjectName → Bool) (es : StoredObjects) → collected p empty (keys_of es) ≡ set_of (names_by p (keys (objects_of es)))
same_sets p es =
    same_map nat_list_cmp_total bytes_apart _ _
    (λ q. get-collected p empty (keys_of es) q ∙ ap (cond (list_any (under p q) (keys_of es)) (Some tt)) (get-empty bytes_cmp q)
    ∙ ap marked (any_same (under p q) (keys_of es) (keys (objects_of es)) (same_keys es))
    ∙ sym (get-from_entries nat_list_cmp_total _ q ∙ find-set_of q (names_by p (keys (objects_of es))) ∙ ap marked (any-filter p q (keys (objects_of es)))))

pub collected_names : (s : Sealed) (es : StoredObjects) (texts : Texts) → texts ≡ collected (is_listed s) empty (keys_of es) → keys texts ≡ names_in (objects_of es) s
unfolding names_in
collected_names s es texts h =
    ap keys (h ∙ same_sets (is_listed s) es) ∙ keys-sorted _ (names-sorted s (entries (objects_of es)) (entries_sorted (objects_of es)))
