-- The pieces of a list together name the objects of the namespace.
use Prim.Native.Nat.{zero, suc}
use Rattle.std.proofs.Common.{◌≡◌, ◌∙◌, ℕ, ◌+◌, ◌<◌, ◌≤◌, ◌==◌, ◌&&◌, ◌||◌, ◌⊎◌, inl, inr, List, [], ◌∷◌, ◌++◌, Bool, true, false, T, cond, Option, Some, None, map, fold, if◌then◌else◌, unwrap_or, refl, sym, ap, subst, arith, mod-lt, eq-or-lt_of_le}
use Rattle.std.specs.List.{filter, flat_map, list_any, range_with_len, find as list_find}
use Rattle.std.specs.Str.{bytes_eq}
use Rattle.std.specs.Ordering.{match_ordering, ordering_then, is_lt, eq_by_cmp}
use Rattle.std.specs.declared.cmp.Ordering.{Ordering}
use Rattle.std.specs.declared.cmp.Ordering.TheVariants.{Less, Equal, Greater}
use Rattle.std.specs.Cmp.{tied_itself}
use Rattle.std.specs.Cmp.Lexicographic.{nat_list_cmp_total}
use Rattle.std.specs.BTreeSet.{insert_key}
use Rattle.std.specs.FinMap.{keys, entries, entries_sorted, slice_cmp-IsAntisymmetric, nat_cmp-IsAntisymmetric}
use Rattle.std.specs.FinMap.Entries.{find, put, by_order, below_all, is_sorted, where_key, is_sorted-put, is_sorted-where_key, find-put, same_entries}
use Rattle.place_core.specs.Placement.{fnv, group_of}
use Rattle.object_core.specs.Content.{Content}
use Rattle.store_core.specs.Request.{Sealed, Listing, target_of, needs_for}
use Rattle.store_core.specs.Store.{Store, ObjectName, name_cmp, bytes_cmp}
use Rattle.store_core.specs.Deciding.{names_in, answered, performed, answer_on, is_allowed_sealed, store_of}
use Rattle.entry_core.specs.Log.{decide}
use Rattle.entry_core.specs.Laws.{is_denied}
use Rattle.store_core.specs.declared.entry.Entry.{Entry}
use Rattle.store_core.specs.declared.reply.Reply.{Reply}
use Rattle.store_core.specs.declared.reply.Reply.TheVariants.{Denied, Names}
use Rattle.verdict_core.specs.Verdict.{report_of}
use Rattle.group_model_whole.specs.Each.{Each}
use Rattle.world_core.specs.Listing.{sorted, joined}
use Rattle.world_front.specs.Joining.{names_in as names_shown}
use Rattle.world_laws.specs.Pieces.{is_there, objects_of, IsPiece, PiecesAreTheNamespace, PiecesAnswerTheNamespace}
use Rattle.world_front.proofs.Merge.{number_refl}
use Rattle.world_front.proofs.Bytes.{bytes_same, both_true}
use Rattle.world_front.proofs.Places.{true_not_false, all_pass}

-- the names that pass a test
keys_where : (p : ObjectName → Bool) (es : List (ObjectName × Content)) → map (λ e. e.0) (where_key name_cmp p es) ≡ filter p (map (λ e. e.0) es)
keys_where p [] = refl
keys_where p (e ∷ es) =
    elim (p e.0) as (λ b. map (λ e. e.0) (cond b (e ∷ where_key name_cmp p es) (where_key name_cmp p es)) ≡ cond b (e.0 ∷ filter p (map (λ e. e.0) es)) (filter p (map (λ e. e.0) es))) [
      | true ↦ ap (λ l. e.0 ∷ l) (keys_where p es)
      | false ↦ keys_where p es
    ]

-- ---- names as entries without a value

abbrev Named : Type 0
Named = List ℕ × Unit {0}

abbrev as_entries : List (List ℕ) → List Named
as_entries ks = map (λ k. (k, tt)) ks

put_inserted : (ks : List (List ℕ)) (k : List ℕ) → as_entries (insert_key bytes_cmp ks k) ≡ put bytes_cmp k tt (as_entries ks)
put_inserted [] k = refl
put_inserted (x ∷ xs) k = go (bytes_cmp k x) (put_inserted xs k)
  where
    go : (o : Ordering) → as_entries (insert_key bytes_cmp xs k) ≡ put bytes_cmp k tt (as_entries xs)
        → as_entries (match_ordering o (k ∷ x ∷ xs) (x ∷ xs) (x ∷ insert_key bytes_cmp xs k)) ≡ by_order o ((k, tt) ∷ (x, tt) ∷ as_entries xs) ((x, tt) ∷ as_entries xs) ((x, tt) ∷ put bytes_cmp k tt (as_entries xs))
    go Less rest = refl
    go Equal rest = refl
    go Greater rest = ap (λ l. (x, tt) ∷ l) rest

fold_sorted : (xs acc : List (List ℕ)) → T (is_sorted bytes_cmp (as_entries acc)) → T (is_sorted bytes_cmp (as_entries (fold (insert_key bytes_cmp) acc xs)))
fold_sorted [] acc h = h
fold_sorted (x ∷ xs) acc h =
    fold_sorted xs (insert_key bytes_cmp acc x) (subst (λ l. T (is_sorted bytes_cmp l)) (sym (put_inserted acc x)) (is_sorted-put bytes_cmp nat_list_cmp_total x tt (as_entries acc) h))

either_way : (a b : Bool) (x y : Option (Unit {0})) → cond a x (cond b x y) ≡ cond (b || a) x y
either_way true true x y = refl
either_way true false x y = refl
either_way false true x y = refl
either_way false false x y = refl

either_first : (a b : Bool) (x y : Option (Unit {0})) → cond a x (cond b x y) ≡ cond (a || b) x y
either_first true b x y = refl
either_first false b x y = refl

fold_find : (q : List ℕ) (xs acc : List (List ℕ)) → find bytes_cmp q (as_entries (fold (insert_key bytes_cmp) acc xs)) ≡ cond (list_any (eq_by_cmp bytes_cmp q) xs) (Some tt) (find bytes_cmp q (as_entries acc))
fold_find q [] acc = refl
fold_find q (x ∷ xs) acc =
    fold_find q xs (insert_key bytes_cmp acc x)
    ∙ ap (λ r. cond (list_any (eq_by_cmp bytes_cmp q) xs) (Some tt) r) (ap (find bytes_cmp q) (put_inserted acc x) ∙ find-put bytes_cmp nat_list_cmp_total q x tt (as_entries acc))
    ∙ either_way (list_any (eq_by_cmp bytes_cmp q) xs) (eq_by_cmp bytes_cmp q x) (Some tt) (find bytes_cmp q (as_entries acc))

own_find : (q : List ℕ) (ks : List (List ℕ)) → find bytes_cmp q (as_entries ks) ≡ cond (list_any (eq_by_cmp bytes_cmp q) ks) (Some tt) None
own_find q [] = refl
own_find q (k ∷ ks) = ap (λ r. cond (eq_by_cmp bytes_cmp q k) (Some tt) r) (own_find q ks) ∙ either_first (eq_by_cmp bytes_cmp q k) (list_any (eq_by_cmp bytes_cmp q) ks) (Some tt) None

firsts : (ks : List (List ℕ)) → map (λ (e : Named). e.0) (as_entries ks) ≡ ks
firsts [] = refl
firsts (k ∷ ks) = ap (λ l. k ∷ l) (firsts ks)

-- ---- which names are among the pieces'

or_true : (a b : Bool) → b ≡ true → (a || b) ≡ true
or_true true b h = refl
or_true false b h = h

module _ {X : Type 0} (t : X → Bool) where
  any_split : (xs ys : List X) → list_any t (xs ++ ys) ≡ true → (list_any t xs ≡ true) ⊎ (list_any t ys ≡ true)
  any_split [] ys h = inr h
  any_split (x ∷ xs) ys h = go (t x) h (λ k. any_split xs ys k)
    where
      go : (b : Bool) → (b || list_any t (xs ++ ys)) ≡ true → (list_any t (xs ++ ys) ≡ true → (list_any t xs ≡ true) ⊎ (list_any t ys ≡ true)) → ((b || list_any t xs) ≡ true) ⊎ (list_any t ys ≡ true)
      go true k rest = inl refl
      go false k rest = rest k

  any_front : (xs ys : List X) → list_any t xs ≡ true → list_any t (xs ++ ys) ≡ true
  any_front [] ys h = absurd (true_not_false (sym h))
  any_front (x ∷ xs) ys h = go (t x) h (λ k. any_front xs ys k)
    where
      go : (b : Bool) → (b || list_any t xs) ≡ true → (list_any t xs ≡ true → list_any t (xs ++ ys) ≡ true) → (b || list_any t (xs ++ ys)) ≡ true
      go true k rest = refl
      go false k rest = rest k

  any_back : (xs ys : List X) → list_any t ys ≡ true → list_any t (xs ++ ys) ≡ true
  any_back [] ys h = h
  any_back (x ∷ xs) ys h = or_true (t x) (list_any t (xs ++ ys)) (any_back xs ys h)

  flat_any : (f : ℕ → List X) (ys : List X) → ((i : ℕ) → list_any t (f i) ≡ true → list_any t ys ≡ true) → (is : List ℕ) → list_any t (flat_map f is) ≡ true → list_any t ys ≡ true
  flat_any f ys each [] h = absurd (true_not_false (sym h))
  flat_any f ys each (i ∷ is) h = go (any_split (f i) (flat_map f is) h) (λ k. flat_any f ys each is k)
    where
      go : (list_any t (f i) ≡ true) ⊎ (list_any t (flat_map f is) ≡ true) → (list_any t (flat_map f is) ≡ true → list_any t ys ≡ true) → list_any t ys ≡ true
      go (inl k) rest = each i k
      go (inr k) rest = rest k

  range_any : (f : ℕ → List X) (k n j : ℕ) → k ≤ j → j < k + n → list_any t (f j) ≡ true → list_any t (flat_map f (range_with_len k n)) ≡ true
  range_any f k zero j least most h = absurd (omega arith)
  range_any f k (suc n) j least most h = go (nat_eq_or k j least) (λ past. range_any f (k + 1) n j past (omega arith) h)
    where
      nat_eq_or : (a b : ℕ) → a ≤ b → (a ≡ b) ⊎ (a + 1 ≤ b)
      nat_eq_or a b le = eq_or_more (eq-or-lt_of_le le)
        where
          eq_or_more : (a ≡ b) ⊎ (a < b) → (a ≡ b) ⊎ (a + 1 ≤ b)
          eq_or_more (inl e) = inl e
          eq_or_more (inr l) = inr (omega arith)

      go : (k ≡ j) ⊎ (k + 1 ≤ j) → (k + 1 ≤ j → list_any t (flat_map f (range_with_len (k + 1) n)) ≡ true) → list_any t (f k ++ flat_map f (range_with_len (k + 1) n)) ≡ true
      go (inl e) rest = any_front (f k) (flat_map f (range_with_len (k + 1) n)) (ap (λ i. list_any t (f i)) e ∙ h)
      go (inr l) rest = any_back (f k) (flat_map f (range_with_len (k + 1) n)) (rest l)

abbrev names : List ObjectName → List (List ℕ)
names ns = map (λ n. n.name) ns

abbrev hashed : ℕ → ℕ → ObjectName → Bool
hashed groups i n = group_of n.namespace n.name groups == i

filter_any : (t : List ℕ → Bool) (p : ObjectName → Bool) (ns : List ObjectName) → list_any t (names (filter p ns)) ≡ true → list_any t (names ns) ≡ true
filter_any t p [] h = h
filter_any t p (n ∷ ns) h = go (p n) h (λ k. filter_any t p ns k)
  where
    go : (b : Bool) → list_any t (names (cond b (n ∷ filter p ns) (filter p ns))) ≡ true → (list_any t (names (filter p ns)) ≡ true → list_any t (names ns) ≡ true) → (t n.name || list_any t (names ns)) ≡ true
    go true k rest = by (t n.name) k
      where
        by : (c : Bool) → (c || list_any t (names (filter p ns))) ≡ true → (c || list_any t (names ns)) ≡ true
        by true m = refl
        by false m = rest m
    go false k rest = or_true (t n.name) (list_any t (names ns)) (rest k)

-- the group of a name that is there
record HasGroup (t : List ℕ → Bool) (groups : ℕ) (ns : List ObjectName) : Type 0 where
  group : ℕ
  below : group < groups
  among : list_any t (names (filter (hashed groups group) ns)) ≡ true

has_group : (t : List ℕ → Bool) (groups : ℕ) → 1 ≤ groups → (ns : List ObjectName) → list_any t (names ns) ≡ true → HasGroup t groups ns
has_group t groups some [] h = absurd (true_not_false (sym h))
has_group t groups some (n ∷ ns) h = go (t n.name) refl h (λ k. has_group t groups some ns k)
  where
    kept : (h : HasGroup t groups ns) (c : Bool) → list_any t (names (cond c (n ∷ filter (hashed groups h.group) ns) (filter (hashed groups h.group) ns))) ≡ true
    kept h true = or_true (t n.name) (list_any t (names (filter (hashed groups h.group) ns))) h.among
    kept h false = h.among

    go : (b : Bool) → t n.name ≡ b → (b || list_any t (names ns)) ≡ true → (list_any t (names ns) ≡ true → HasGroup t groups ns) → HasGroup t groups (n ∷ ns)
    go true e k rest =
        let more : 0 < groups = omega arith in
        record {
          group = group_of n.namespace n.name groups;
          below = mod-lt (fnv (n.namespace ++ 31 ∷ n.name)) more;
          among = ap (λ c. list_any t (names (cond c (n ∷ filter (hashed groups (group_of n.namespace n.name groups)) ns) (filter (hashed groups (group_of n.namespace n.name groups)) ns)))) (number_refl (group_of n.namespace n.name groups))
              ∙ ap (λ c. c || list_any t (names (filter (hashed groups (group_of n.namespace n.name groups)) ns))) e;
        }
    go false e k rest = let m = rest k in record { group = m.group; below = m.below; among = kept m (hashed groups m.group n) }

bool_same : (a b : Bool) → (a ≡ true → b ≡ true) → (b ≡ true → a ≡ true) → a ≡ b
bool_same true b f g = sym (f refl)
bool_same false true f g = g refl
bool_same false false f g = refl

pieces_any : (t : List ℕ → Bool) (groups : ℕ) → 1 ≤ groups → (ns : List ObjectName) → list_any t (flat_map (λ i. names (filter (hashed groups i) ns)) (range_with_len 0 groups)) ≡ list_any t (names ns)
pieces_any t groups some ns =
    bool_same (list_any t (flat_map (λ i. names (filter (hashed groups i) ns)) (range_with_len 0 groups))) (list_any t (names ns))
    (λ h. flat_any t (λ i. names (filter (hashed groups i) ns)) (names ns) (λ i k. filter_any t (hashed groups i) ns k) (range_with_len 0 groups) h)
    (λ h. let m = has_group t groups some ns h in let low : m.group < groups = m.below in range_any t (λ i. names (filter (hashed groups i) ns)) 0 groups m.group (omega arith) (omega arith) m.among)

-- ---- the names of one pool and namespace rise

both_hold : (a b : Bool) → T a → T b → T (a && b)
both_hold true b p q = q
both_hold false b p q = p

one_holds : (a b : Bool) → T (a && b) → T a
one_holds true b p = tt
one_holds false b p = p

other_holds : (a b : Bool) → T (a && b) → T b
other_holds true b p = p
other_holds false b p = absurd p

same_place : (pool namespace : List ℕ) (x y : ObjectName) → is_there pool namespace x ≡ true → is_there pool namespace y ≡ true → name_cmp x y ≡ bytes_cmp x.name y.name
same_place pool namespace x y h k =
    let a = both_true (bytes_eq x.pool pool) (bytes_eq x.namespace namespace) h in
    let b = both_true (bytes_eq y.pool pool) (bytes_eq y.namespace namespace) k in
    let pools : x.pool ≡ y.pool = bytes_same x.pool pool a.0 ∙ sym (bytes_same y.pool pool b.0) in
    let spaces : x.namespace ≡ y.namespace = bytes_same x.namespace namespace a.1 ∙ sym (bytes_same y.namespace namespace b.1) in
    ap (λ o. ordering_then o (ordering_then (bytes_cmp x.namespace y.namespace) (bytes_cmp x.name y.name))) (ap (bytes_cmp x.pool) (sym pools) ∙ tied_itself nat_list_cmp_total x.pool)
    ∙ ap (λ o. ordering_then o (bytes_cmp x.name y.name)) (ap (bytes_cmp x.namespace) (sym spaces) ∙ tied_itself nat_list_cmp_total x.namespace)

abbrev Held : Type 0
Held = ObjectName × Content

below_names : (pool namespace : List ℕ) (x : ObjectName) (es : List Held) → is_there pool namespace x ≡ true → Each (λ (e : Held). is_there pool namespace e.0 ≡ true) es → T (below_all name_cmp x es)
    → T (below_all bytes_cmp x.name (as_entries (map (λ (e : Held). e.0.name) es)))
below_names pool namespace x [] h all low = tt
below_names pool namespace x (e ∷ es) h all low =
    both_hold (is_lt (bytes_cmp x.name e.0.name)) (below_all bytes_cmp x.name (as_entries (map (λ (e : Held). e.0.name) es)))
    (subst (λ o. T (is_lt o)) (same_place pool namespace x e.0 h all.0) (one_holds (is_lt (name_cmp x e.0)) (below_all name_cmp x es) low))
    (below_names pool namespace x es h all.1 (other_holds (is_lt (name_cmp x e.0)) (below_all name_cmp x es) low))

names_rise : (pool namespace : List ℕ) (es : List Held) → Each (λ (e : Held). is_there pool namespace e.0 ≡ true) es → T (is_sorted name_cmp es) → T (is_sorted bytes_cmp (as_entries (map (λ (e : Held). e.0.name) es)))
names_rise pool namespace [] all rise = tt
names_rise pool namespace (e ∷ es) all rise =
    both_hold (below_all bytes_cmp e.0.name (as_entries (map (λ (e : Held). e.0.name) es))) (is_sorted bytes_cmp (as_entries (map (λ (e : Held). e.0.name) es)))
    (below_names pool namespace e.0 es all.0 all.1 (one_holds (below_all name_cmp e.0 es) (is_sorted name_cmp es) rise))
    (names_rise pool namespace es all.1 (other_holds (below_all name_cmp e.0 es) (is_sorted name_cmp es) rise))

map_twice : (es : List Held) → map (λ (e : Held). e.0.name) es ≡ names (map (λ (e : Held). e.0) es)
map_twice [] = refl
map_twice (e ∷ es) = ap (λ l. e.0.name ∷ l) (map_twice es)

objects_rise : (store : Store) (pool namespace : List ℕ) → T (is_sorted bytes_cmp (as_entries (names (objects_of store pool namespace))))
objects_rise store pool namespace =
    let p : ObjectName → Bool = is_there pool namespace in
    let es : List Held = where_key name_cmp p (entries store) in
    let are : map (λ (e : Held). e.0.name) es ≡ names (objects_of store pool namespace) = map_twice es ∙ ap names (keys_where p (entries store)) in
    subst (λ l. T (is_sorted bytes_cmp (as_entries l))) are
    (names_rise pool namespace es (all_pass (λ (e : Held). is_there pool namespace e.0) (entries store)) (is_sorted-where_key name_cmp p (entries store) (entries_sorted store)))

-- ---- the pieces

filter_both : {X : Type 0} (p q : X → Bool) (xs : List X) → filter (λ x. p x && q x) xs ≡ filter q (filter p xs)
filter_both p q [] = refl
filter_both p q (x ∷ xs) = go (p x) (filter_both p q xs)
  where
    go : (b : Bool) → filter (λ x. p x && q x) xs ≡ filter q (filter p xs) → cond (b && q x) (x ∷ filter (λ x. p x && q x) xs) (filter (λ x. p x && q x) xs) ≡ filter q (cond b (x ∷ filter p xs) (filter p xs))
    go true rest = ap (λ l. cond (q x) (x ∷ l) l) rest
    go false rest = rest

piece_names : (pool namespace : List ℕ) (groups i : ℕ) (s : Sealed) (store : Store) (objects : List ObjectName) → IsPiece pool namespace groups i s → objects_of store pool namespace ≡ objects → names_in store s ≡ names (filter (hashed groups i) objects)
unfolding names_in
piece_names pool namespace groups i s store objects is same =
    ap names (filter_both (is_there s.view.pool s.namespace) (λ n. group_of n.namespace n.name s.view.pg_num == s.group) (keys store))
    ∙ ap (λ l. names (filter (λ n. group_of n.namespace n.name s.view.pg_num == s.group) l)) (ap (λ v. objects_of store v s.namespace) is.pool_is ∙ ap (objects_of store pool) is.namespace_is ∙ same)
    ∙ ap (λ g. names (filter (λ n. group_of n.namespace n.name g == s.group) objects)) is.groups_is
    ∙ ap (λ j. names (filter (hashed groups j) objects)) is.group_is

same_over : (f g : ℕ → List (List ℕ)) (groups : ℕ) → ((i : ℕ) → i < groups → f i ≡ g i) → (k n : ℕ) → k + n ≤ groups → flat_map f (range_with_len k n) ≡ flat_map g (range_with_len k n)
same_over f g groups same k zero most = refl
same_over f g groups same k (suc n) most = ap (λ l. l ++ flat_map f (range_with_len (k + 1) n)) (same k (omega arith)) ∙ ap (λ l. g k ++ l) (same_over f g groups same (k + 1) n (omega arith))

pub pieces_are_the_namespace : PiecesAreTheNamespace
pieces_are_the_namespace pool namespace groups pieces stores objects some are same =
    let told : List (List ℕ) = flat_map (λ i. names (filter (hashed groups i) objects)) (range_with_len 0 groups) in
    let first : 0 < groups = omega arith in
    let rise : T (is_sorted bytes_cmp (as_entries (names objects))) = subst (λ l. T (is_sorted bytes_cmp (as_entries (names l)))) (same 0 first) (objects_rise (stores 0) pool namespace) in
    let both : as_entries (sorted told) ≡ as_entries (names objects) =
    same_entries bytes_cmp nat_list_cmp_total (slice_cmp-IsAntisymmetric nat_cmp-IsAntisymmetric) (as_entries (sorted told)) (as_entries (names objects)) (fold_sorted told [] tt) rise
    (λ q. fold_find q told [] ∙ ap (λ b. cond b (Some tt) None) (pieces_any (eq_by_cmp bytes_cmp q) groups some objects) ∙ sym (own_find q (names objects))) in
    ap sorted (same_over (λ i. names_in (stores i) (pieces i)) (λ i. names (filter (hashed groups i) objects)) groups
    (λ i low. piece_names pool namespace groups i (pieces i) (stores i) objects (are i low) (same i low)) 0 groups (omega arith))
    ∙ sym (firsts (sorted told)) ∙ ap (map (λ (e : Named). e.0)) both ∙ firsts (names objects)

-- ---- the replies

pub reply_names : (log : List Entry) (s : Sealed) → s.work ≡ Listing → is_allowed_sealed s ≡ true → (decide log s).reply ≡ Names (names_in (store_of log) s)
unfolding answer_on
reply_names log s is allowed = ap (λ b. (if b then performed (store_of log) s s.work else answered (Denied (report_of s.ticket (target_of s) (needs_for s.work) s.tick))).reply) allowed ∙ ap (λ w. (performed (store_of log) s w).reply) is

pub same_replies : (f g : ℕ → Reply) (groups : ℕ) → ((i : ℕ) → i < groups → f i ≡ g i) → (k n : ℕ) → k + n ≤ groups → map f (range_with_len k n) ≡ map g (range_with_len k n)
same_replies f g groups same k zero most = refl
same_replies f g groups same k (suc n) most = ap (λ r. r ∷ map f (range_with_len (k + 1) n)) (same k (omega arith)) ∙ ap (λ l. g k ∷ l) (same_replies f g groups same (k + 1) n (omega arith))

pub none_denied : (f : ℕ → List (List ℕ)) (is : List ℕ) → list_find is_denied (map (λ i. Names (f i)) is) ≡ None
none_denied f [] = refl
none_denied f (i ∷ is) = none_denied f is

pub names_told : (f : ℕ → List (List ℕ)) (is : List ℕ) → flat_map names_shown (map (λ i. Names (f i)) is) ≡ flat_map f is
names_told f [] = refl
names_told f (i ∷ is) = ap (λ l. f i ++ l) (names_told f is)

pub pieces_answer_the_namespace : PiecesAnswerTheNamespace
pieces_answer_the_namespace pool namespace groups pieces logs objects some are same listing allowed =
    let f : ℕ → List (List ℕ) = λ i. names_in (store_of (logs i)) (pieces i) in
    ap joined (same_replies (λ i. (decide (logs i) (pieces i)).reply) (λ i. Names (f i)) groups (λ i low. reply_names (logs i) (pieces i) (listing i low) (allowed i low)) 0 groups (omega arith))
    ∙ ap (λ o. unwrap_or o (Names (sorted (flat_map names_shown (map (λ i. Names (f i)) (range_with_len 0 groups)))))) (none_denied f (range_with_len 0 groups))
    ∙ ap (λ l. Names (sorted l)) (names_told f (range_with_len 0 groups))
    ∙ ap Names (pieces_are_the_namespace pool namespace groups pieces (λ i. store_of (logs i)) objects some are same)
