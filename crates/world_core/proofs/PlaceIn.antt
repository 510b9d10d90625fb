-- Where a group stands: after the groups of the earlier pools and those of its own with smaller numbers.
use Prim.Native.Nat.{zero, suc}
use Rattle.std.proofs.Common.{◌≡◌, ◌∙◌, ℕ, ◌+◌, ◌<◌, ◌==◌, ◌&&◌, List, [], ◌∷◌, ◌++◌, Bool, true, false, cond, if◌then◌else◌, Option, Some, None, is_some, length, map, refl, sym, ap, subst, arith}
use Rattle.std.specs.Prelude.{nat_le}
use Rattle.std.specs.List.{flat_map, range_with_len, find}
use Rattle.std.specs.Option.{option_map_or}
use Rattle.std.specs.Str.{bytes_eq}
use Rattle.std.specs.Cmp.{unsigned_Decides}
use Rattle.std.proofs.lemmas.Bool.Decides.{nat_tests}
use Rattle.std.proofs.lemmas.List.FromFn.{length-range_with_len}
use Rattle.map_core.specs.State.{History}
use Rattle.map_core.specs.Map.{is_named, map_of, pool_in}
use Rattle.map_core.specs.Refusal.{first_of, acting_tests, groups_in}
use Rattle.map_core.specs.declared.pool.Pool.{Pool}
use Rattle.map_core.proofs.Acceptance.{all_fail, not_false}
use Rattle.store_core.specs.declared.sealed.GroupId.{GroupId}
use Rattle.group_model.specs.Group.{Group}
use Rattle.world_front.specs.Groups.{is_same_group, groups_of}
use Rattle.world_core.specs.World.{group_at, at_group}
use Rattle.world_core.specs.Moves.{AreGroupsOf, IsAt}
use Rattle.world_front.specs.Groups.{place_in}
use Rattle.world_front.proofs.Bytes.{bytes_same, number_same}
use Rattle.world_front.proofs.Merge.{bytes_refl}
use Rattle.world_front.proofs.Places.{numbered, true_not_false, bytes_turned}

-- ---- one group before it, or none

here : (id : GroupId) (g : Group) (gs : List Group) → is_same_group id g.group ≡ true → IsAt (g ∷ gs) id 0
here id g gs is = record {
  group = g;
  there = refl;
  found = ap (λ b. if b then Some g else group_at id gs) is;
  changed = λ change. ap (λ b. if b then change g ∷ gs else g ∷ at_group id change gs) is;
  within = omega arith;
}

later : (id : GroupId) (g : Group) (gs : List Group) (k : ℕ) → is_same_group id g.group ≡ false → IsAt gs id k → IsAt (g ∷ gs) id (suc k)
later id g gs k is h =
    let within : k < length gs = h.within in
    record {
      group = h.group;
      there = h.there;
      found = ap (λ b. if b then Some g else group_at id gs) is ∙ h.found;
      changed = λ change. ap (λ b. if b then change g ∷ gs else g ∷ at_group id change gs) is ∙ ap (λ l. g ∷ l) (h.changed change);
      within = omega arith;
    }

at_place : (groups : List Group) (id : GroupId) (j k : ℕ) → j ≡ k → IsAt groups id j → IsAt groups id k
at_place groups id j k same h = subst (IsAt groups id) same h

-- ---- the groups of one pool

first_is : (x : GroupId) (xs : List GroupId) (g : Group) (gs : List Group) → map (λ h. h.group) (g ∷ gs) ≡ x ∷ xs → g.group ≡ x
first_is x xs g gs e = cc

rest_are : (x : GroupId) (xs : List GroupId) (g : Group) (gs : List Group) → map (λ h. h.group) (g ∷ gs) ≡ x ∷ xs → map (λ h. h.group) gs ≡ xs
rest_are x xs g gs e = cc

-- after the groups of another pool
past : (id : GroupId) (pool : List ℕ) (ns : List ℕ) (rest : List GroupId) (k : ℕ) (groups : List Group) → bytes_eq id.pool pool ≡ false
    → ((gs : List Group) → map (λ g. g.group) gs ≡ rest → IsAt gs id k) → map (λ g. g.group) groups ≡ map (numbered pool) ns ++ rest → IsAt groups id (length ns + k)
past id pool [] rest k groups apart found are = let e : k ≡ 0 + k = omega arith in at_place groups id k (0 + k) e (found groups are)
past id pool (n ∷ ns) rest k [] apart found are = absurd (cc)
past id pool (n ∷ ns) rest k (g ∷ gs) apart found are =
    let this : g.group ≡ numbered pool n = first_is (numbered pool n) (map (numbered pool) ns ++ rest) g gs are in
    let other : is_same_group id g.group ≡ false = ap (is_same_group id) this ∙ ap (λ b. b && (id.number == n)) apart in
    let e : suc (length ns + k) ≡ length (n ∷ ns) + k = omega arith in
    at_place (g ∷ gs) id (suc (length ns + k)) (length (n ∷ ns) + k) e
    (later id g gs (length ns + k) other (past id pool ns rest k gs apart found (rest_are (numbered pool n) (map (numbered pool) ns ++ rest) g gs are)))

not_first : (a b : ℕ) → a < b → (b == a) ≡ false
not_first a b less = go (b == a) refl
  where
    go : (c : Bool) → (b == a) ≡ c → c ≡ false
    go false e = refl
    go true e = absurd (let same : b ≡ a = number_same b a e in omega arith)

-- among those of its own, from a number on
own : (id : GroupId) (k n : ℕ) (rest : List GroupId) (groups : List Group) (further : ℕ) → id.number ≡ k + further → id.number < k + n
    → map (λ g. g.group) groups ≡ map (numbered id.pool) (range_with_len k n) ++ rest → IsAt groups id further
own id k zero rest groups further is less are = absurd (omega arith)
own id k (suc n) rest [] further is less are = absurd (cc)
own id k (suc n) rest (g ∷ gs) zero is less are =
    let this : g.group ≡ numbered id.pool k = first_is (numbered id.pool k) (map (numbered id.pool) (range_with_len (k + 1) n) ++ rest) g gs are in
    let number : id.number ≡ k = omega arith in
    here id g gs (ap (is_same_group id) this ∙ ap (λ b. b && (id.number == k)) (bytes_refl id.pool) ∙ (unsigned_Decides id.number k).1 number)
own id k (suc n) rest (g ∷ gs) (suc further) is less are =
    let this : g.group ≡ numbered id.pool k = first_is (numbered id.pool k) (map (numbered id.pool) (range_with_len (k + 1) n) ++ rest) g gs are in
    let other : (id.number == k) ≡ false = not_first k id.number (omega arith) in
    later id g gs further (ap (is_same_group id) this ∙ ap (λ b. b && (id.number == k)) (bytes_refl id.pool) ∙ other)
    (own id (k + 1) n rest gs further (omega arith) (omega arith) (rest_are (numbered id.pool k) (map (numbered id.pool) (range_with_len (k + 1) n) ++ rest) g gs are))

-- ---- all pools

pub stands : (id : GroupId) (pools : List Pool) (p : Pool) → find (is_named id.pool) pools ≡ Some p → id.number < p.pg_num
    → (groups : List Group) → map (λ g. g.group) groups ≡ flat_map groups_of pools → IsAt groups id (place_in pools id)
stands id [] p found less groups are = absurd (cc)
stands id (q ∷ qs) p found less groups are = go (is_named id.pool q) refl found (λ k. stands id qs p k less)
  where
    go : (b : Bool) → is_named id.pool q ≡ b → cond b (Some q) (find (is_named id.pool) qs) ≡ Some p
        → (find (is_named id.pool) qs ≡ Some p → (gs : List Group) → map (λ g. g.group) gs ≡ flat_map groups_of qs → IsAt gs id (place_in qs id))
        → IsAt groups id (if b then id.number else q.pg_num + place_in qs id)
    go true is one more =
        let same : q ≡ p = cc in
        let name : q.name ≡ id.pool = bytes_same q.name id.pool is in
        let below : id.number < q.pg_num = subst (λ r. id.number < r.pg_num) (sym same) less in
        own id 0 q.pg_num (flat_map groups_of qs) groups id.number (omega arith) (omega arith)
        (are ∙ ap (λ n. map (numbered n) (range_with_len 0 q.pg_num) ++ flat_map groups_of qs) name)
    go false is one more =
        let e : length (range_with_len 0 q.pg_num) + place_in qs id ≡ q.pg_num + place_in qs id = ap (λ n. n + place_in qs id) (length-range_with_len 0 q.pg_num) in
        at_place groups id (length (range_with_len 0 q.pg_num) + place_in qs id) (q.pg_num + place_in qs id) e
        (past id q.name (range_with_len 0 q.pg_num) (flat_map groups_of qs) (place_in qs id) groups (bytes_turned q.name id.pool is) (more one) are)

-- ---- a group that the map has

-- the pool that a question finds
record IsThere (pools : List Pool) (id : GroupId) : Type 0 where
  pool : Pool
  found : find (is_named id.pool) pools ≡ Some pool
  number : id.number < pool.pg_num

there : (pools : List Pool) (id : GroupId) → first_of (acting_tests pools id.pool id.number) ≡ None → IsThere pools id
unfolding pool_in groups_in
there pools id none =
    let fails = all_fail (acting_tests pools id.pool id.number) none in
    go (find (is_named id.pool) pools) refl (not_false (is_some (find (is_named id.pool) pools)) fails.1.0) fails.1.1.0
  where
    go : (o : Option Pool) → find (is_named id.pool) pools ≡ o → is_some o ≡ true → nat_le (option_map_or (λ (p : Pool). p.pg_num) o 0) id.number ≡ false → IsThere pools id
    go None e some low = absurd (true_not_false (sym some))
    go (Some p) e some low = record { pool = p; found = e; number = grind (arith, nat_tests) }

pub has_place : (history : History) (id : GroupId) → first_of (acting_tests (map_of history).pools id.pool id.number) ≡ None
    → (groups : List Group) → AreGroupsOf history groups → IsAt groups id (place_in (map_of history).pools id)
has_place history id none groups are =
    let t : IsThere (map_of history).pools id = there (map_of history).pools id none in
    stands id (map_of history).pools t.pool t.found t.number groups are.places
