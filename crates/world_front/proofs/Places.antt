-- Where groups stand, and which parts of a list are for one of them.
use Prim.Native.Nat.{zero, suc}
use Rattle.std.proofs.Common.{◌≡◌, ◌∙◌, ℕ, ◌+◌, ◌<◌, ◌≤◌, ◌==◌, ◌&&◌, List, [], ◌∷◌, ◌++◌, Bool, true, false, cond, Option, Some, None, option_to_list, map, refl, sym, ap, subst, arith, nat_lt}
use Rattle.std.specs.List.{filter, flat_map, range_with_len, find}
use Rattle.std.specs.Str.{bytes_eq}
use Rattle.std.specs.Cmp.{unsigned_Decides}
use Rattle.std.proofs.lemmas.Bool.Decides.{nat_tests}
use Rattle.std.proofs.lemmas.List.Elements.{filter-append}
use Rattle.map_core.specs.Map.{is_named}
use Rattle.map_core.specs.declared.pool.Pool.{Pool}
use Rattle.store_core.specs.declared.sealed.GroupId.{GroupId}
use Rattle.group_model_whole.specs.Each.{Each}
use Rattle.world_front.specs.Groups.{is_same_group, groups_of}
use Rattle.world_front.proofs.Merge.{same_group, group_refl, bytes_refl}
use Rattle.world_front.proofs.Bytes.{bytes_same, number_same}

pub true_not_false : true ≡ false → ⊥
true_not_false e = cc

pub filter_map_is : {X Y : Type 0} (test : Y → Bool) (f : X → Y) (xs : List X) → filter test (map f xs) ≡ map f (filter (λ x. test (f x)) xs)
filter_map_is test f [] = refl
filter_map_is test f (x ∷ xs) = go (test (f x)) (filter_map_is test f xs)
  where
    go : (b : Bool) → filter test (map f xs) ≡ map f (filter (λ x. test (f x)) xs) → cond b (f x ∷ filter test (map f xs)) (filter test (map f xs)) ≡ map f (cond b (x ∷ filter (λ x. test (f x)) xs) (filter (λ x. test (f x)) xs))
    go true h = ap (λ l. f x ∷ l) h
    go false h = h

pub each_filter : {X : Type 0} (P : X → Type 0) (test : X → Bool) (xs : List X) → Each P xs → Each P (filter test xs)
each_filter P test [] h = tt
each_filter P test (x ∷ xs) h = go (test x) (each_filter P test xs h.1)
  where
    go : (b : Bool) → Each P (filter test xs) → Each P (cond b (x ∷ filter test xs) (filter test xs))
    go true k = (h.0, k)
    go false k = k

pub all_pass : {X : Type 0} (test : X → Bool) (xs : List X) → Each (λ x. test x ≡ true) (filter test xs)
all_pass test [] = tt
all_pass test (x ∷ xs) = go (test x) refl (all_pass test xs)
  where
    go : (b : Bool) → test x ≡ b → Each (λ y. test y ≡ true) (filter test xs) → Each (λ y. test y ≡ true) (cond b (x ∷ filter test xs) (filter test xs))
    go true is k = (is, k)
    go false is k = k

-- the two ways round
pub group_turned : (a b : GroupId) → is_same_group a b ≡ is_same_group b a
group_turned a b = go (is_same_group a b) refl (is_same_group b a) refl
  where
    go : (p : Bool) → is_same_group a b ≡ p → (q : Bool) → is_same_group b a ≡ q → p ≡ q
    go true x true y = refl
    go false x false y = refl
    go true x false y = let same : a ≡ b = same_group a b x in sym (group_refl a) ∙ ap (λ i. is_same_group i a) same ∙ y
    go false x true y = let same : b ≡ a = same_group b a y in sym x ∙ ap (λ i. is_same_group i b) (sym same) ∙ group_refl b

-- ---- the groups of pools

abbrev pub numbered : List ℕ → ℕ → GroupId
numbered pool n = record { pool = pool; number = n }

number_other : (a b : ℕ) → a < b → (a == b) ≡ false
number_other a b less = go (a == b) refl
  where
    go : (c : Bool) → (a == b) ≡ c → c ≡ false
    go false e = refl
    go true e = absurd (let same : a ≡ b = number_same a b e in omega arith)

and_false : (a b : Bool) → b ≡ false → (a && b) ≡ false
and_false true b h = h
and_false false b h = refl

pub later_none : (id : GroupId) (pool : List ℕ) (k n : ℕ) → id.number < k → filter (is_same_group id) (map (numbered pool) (range_with_len k n)) ≡ []
later_none id pool k zero less = refl
later_none id pool k (suc n) less =
    ap (λ b. cond b (numbered pool k ∷ filter (is_same_group id) (map (numbered pool) (range_with_len (k + 1) n))) (filter (is_same_group id) (map (numbered pool) (range_with_len (k + 1) n))))
    (and_false (bytes_eq id.pool pool) (id.number == k) (number_other id.number k less))
    ∙ later_none id pool (k + 1) n (omega arith)

own_one : (id : GroupId) (k n : ℕ) → k ≤ id.number → id.number < k + n → filter (is_same_group id) (map (numbered id.pool) (range_with_len k n)) ≡ id ∷ []
own_one id k zero least most = absurd (omega arith)
own_one id k (suc n) least most = go (id.number == k) refl (λ now. own_one id (k + 1) n now (omega arith))
  where
    test : (b : Bool) → (id.number == k) ≡ b → is_same_group id (numbered id.pool k) ≡ b
    test b e = ap (λ c. c && (id.number == k)) (bytes_refl id.pool) ∙ e

    go : (b : Bool) → (id.number == k) ≡ b → (k + 1 ≤ id.number → filter (is_same_group id) (map (numbered id.pool) (range_with_len (k + 1) n)) ≡ id ∷ []) → cond (is_same_group id (numbered id.pool k)) (numbered id.pool k ∷ filter (is_same_group id) (map (numbered id.pool) (range_with_len (k + 1) n))) (filter (is_same_group id) (map (numbered id.pool) (range_with_len (k + 1) n))) ≡ id ∷ []
    go true e more =
        let same : id.number ≡ k = number_same id.number k e in
        ap (λ b. cond b (numbered id.pool k ∷ filter (is_same_group id) (map (numbered id.pool) (range_with_len (k + 1) n))) (filter (is_same_group id) (map (numbered id.pool) (range_with_len (k + 1) n)))) (test true e)
        ∙ ap (λ l. numbered id.pool k ∷ l) (later_none id id.pool (k + 1) n (omega arith))
        ∙ ap (λ j. numbered id.pool j ∷ []) (sym same)
    go false e more =
        let apart : id.number ≡ k → ⊥ = λ same. true_not_false (sym ((unsigned_Decides id.number k).1 same) ∙ e) in
        ap (λ b. cond b (numbered id.pool k ∷ filter (is_same_group id) (map (numbered id.pool) (range_with_len (k + 1) n))) (filter (is_same_group id) (map (numbered id.pool) (range_with_len (k + 1) n)))) (test false e)
        ∙ more (above k id.number least apart)
      where
        above : (a b : ℕ) → a ≤ b → (b ≡ a → ⊥) → a + 1 ≤ b
        above a b le apart_too = by (nat_lt a b) refl
          where
            by : (c : Bool) → nat_lt a b ≡ c → a + 1 ≤ b
            by true e = grind (arith, nat_tests)
            by false e = absurd (apart_too (grind (arith, nat_tests)))

other_pool : (id : GroupId) (pool : List ℕ) (ns : List ℕ) → bytes_eq id.pool pool ≡ false → filter (is_same_group id) (map (numbered pool) ns) ≡ []
other_pool id pool [] apart = refl
other_pool id pool (n ∷ ns) apart =
    ap (λ b. cond (b && (id.number == n)) (numbered pool n ∷ filter (is_same_group id) (map (numbered pool) ns)) (filter (is_same_group id) (map (numbered pool) ns))) apart
    ∙ other_pool id pool ns apart

-- no two pools have one name
abbrev pub NamedOnce : List Pool → Type 0
NamedOnce [] = Unit {0}
NamedOnce (p ∷ ps) = (find (is_named p.name) ps ≡ None) × NamedOnce ps

pub bytes_turned : (a b : List ℕ) → bytes_eq a b ≡ false → bytes_eq b a ≡ false
bytes_turned a b h = go (bytes_eq b a) refl
  where
    go : (c : Bool) → bytes_eq b a ≡ c → c ≡ false
    go false e = refl
    go true e = absurd (let same : b ≡ a = bytes_same b a e in true_not_false (sym (bytes_refl a) ∙ ap (bytes_eq a) (sym same) ∙ h))

pub places_none : (id : GroupId) (pools : List Pool) → find (is_named id.pool) pools ≡ None → filter (is_same_group id) (flat_map groups_of pools) ≡ []
places_none id [] none = refl
places_none id (p ∷ ps) none = go (is_named id.pool p) refl none (λ k. places_none id ps k)
  where
    go : (b : Bool) → is_named id.pool p ≡ b → cond b (Some p) (find (is_named id.pool) ps) ≡ None → (find (is_named id.pool) ps ≡ None → filter (is_same_group id) (flat_map groups_of ps) ≡ []) → filter (is_same_group id) (groups_of p ++ flat_map groups_of ps) ≡ []
    go true is one more = absurd (cc)
    go false is rest more =
        filter-append (is_same_group id) (groups_of p) (flat_map groups_of ps)
        ∙ ap (λ l. l ++ filter (is_same_group id) (flat_map groups_of ps)) (other_pool id p.name (range_with_len 0 p.pg_num) (bytes_turned p.name id.pool is))
        ∙ more rest

-- a place of the map is there once
pub places_once : (id : GroupId) (pools : List Pool) (p : Pool) → NamedOnce pools → find (is_named id.pool) pools ≡ Some p → id.number < p.pg_num → filter (is_same_group id) (flat_map groups_of pools) ≡ id ∷ []
places_once id [] p once found less = absurd (cc)
places_once id (q ∷ qs) p once found less = go (is_named id.pool q) refl found (λ k. places_once id qs p once.1 k less)
  where
    go : (b : Bool) → is_named id.pool q ≡ b → cond b (Some q) (find (is_named id.pool) qs) ≡ Some p → (find (is_named id.pool) qs ≡ Some p → filter (is_same_group id) (flat_map groups_of qs) ≡ id ∷ []) → filter (is_same_group id) (groups_of q ++ flat_map groups_of qs) ≡ id ∷ []
    go true is one more =
        let same : q ≡ p = cc in
        let name : q.name ≡ id.pool = bytes_same q.name id.pool is in
        let below : id.number < q.pg_num = subst (λ r. id.number < r.pg_num) (sym same) less in
        filter-append (is_same_group id) (groups_of q) (flat_map groups_of qs)
        ∙ ap (λ l. filter (is_same_group id) (groups_of q) ++ l) (places_none id qs (ap (λ n. find (is_named n) qs) (sym name) ∙ once.0))
        ∙ ap (λ n. filter (is_same_group id) (map (numbered n) (range_with_len 0 q.pg_num)) ++ []) name
        ∙ ap (λ l. l ++ []) (own_one id 0 q.pg_num (omega arith) (omega arith))
    go false is rest more =
        filter-append (is_same_group id) (groups_of q) (flat_map groups_of qs)
        ∙ ap (λ l. l ++ filter (is_same_group id) (flat_map groups_of qs)) (other_pool id q.name (range_with_len 0 q.pg_num) (bytes_turned q.name id.pool is))
        ∙ more rest

-- ---- at most one

-- none or one of a list
pub record AtMostOne {X : Type 0} (l : List X) : Type 0 where
  pub one : Option X
  pub is : l ≡ option_to_list one

map_empty : {X Y : Type 0} (f : X → Y) (xs : List X) → map f xs ≡ [] → xs ≡ []
map_empty f [] h = refl
map_empty f (x ∷ xs) h = absurd (cc)

pub one_mapped : {X Y : Type 0} (f : X → Y) (xs : List X) → AtMostOne xs → AtMostOne (map f xs)
one_mapped f xs h = go h.one h.is
  where
    go : (o : Option _) → xs ≡ option_to_list o → AtMostOne (map f xs)
    go None e = record { one = None; is = ap (map f) e }
    go (Some x) e = record { one = Some (f x); is = ap (map f) e }

-- a number stands once in a row of numbers
pub one_number : (id : GroupId) (pool : List ℕ) (k n : ℕ) → AtMostOne (filter (λ i. is_same_group id (numbered pool i)) (range_with_len k n))
one_number id pool k zero = record { one = None; is = refl }
one_number id pool k (suc n) = go (is_same_group id (numbered pool k)) refl (one_number id pool (k + 1) n)
  where
    go : (b : Bool) → is_same_group id (numbered pool k) ≡ b → AtMostOne (filter (λ i. is_same_group id (numbered pool i)) (range_with_len (k + 1) n))
        → AtMostOne (cond b (k ∷ filter (λ i. is_same_group id (numbered pool i)) (range_with_len (k + 1) n)) (filter (λ i. is_same_group id (numbered pool i)) (range_with_len (k + 1) n)))
    go true is rest =
        let same : id ≡ numbered pool k = same_group id (numbered pool k) is in
        let number : id.number ≡ k = ap (λ i. i.number) same in
        record {
          one = Some k;
          is = ap (λ l. k ∷ l) (map_empty (numbered pool) (filter (λ i. is_same_group id (numbered pool i)) (range_with_len (k + 1) n))
              (sym (filter_map_is (is_same_group id) (numbered pool) (range_with_len (k + 1) n)) ∙ later_none id pool (k + 1) n (omega arith)));
        }
    go false is rest = rest
