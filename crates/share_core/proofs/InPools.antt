-- What two tickets share in pools that are given.
use Rattle.std.proofs.Common.{◌≡◌, ◌≢◌, ◌<◌, ◌≤◌, ℕ, zero, suc, ◌+◌, drop, length, get_or, List, [], ◌∷◌, Bool, true, false, ◌&&◌, ◌||◌, if◌then◌else◌, Option, Some, None, option_copied, slice_get, Bor, nat_eq, refl, sym, ap, ◌∙◌, subst, inl, inr, arith}
use Rattle.std.specs.List.{list_any, find}
use Rattle.std.proofs.lemmas.List.{drop_all, drop_more}
use Rattle.std.proofs.lemmas.Option.{slice_get_within, slice_get-get_or}
use Rattle.std.proofs.lemmas.Bool.{false≢true}
use Rattle.std.proofs.lemmas.Bool.Decides.{Decides-eqb}
use Rattle.cap_grants.specs.declared.grant.AllowGrant.{AllowGrant}
use Rattle.request_types.specs.Target.{Target}
use Rattle.verdict_core.specs.Verdict.{names, matches, matches_namespace, matches_tag}
use Rattle.compare_core.proofs.Bools.{both_left, both_right, both, some_pass, any_at, true_or_false}
use Rattle.share_core.specs.declared.pools.Pool.{Pool}
use Rattle.share_core.specs.declared.touches.Touch.{Touch}
use Rattle.share_core.specs.Sharing.{IsSharedIn, ShareInOne, ShareIn, IsExampleAt, IsExampleIn}
use Rattle.share_core.specs.Meeting.{gives, pools_meet, namespaces_meet, prefixes_meet, is_for, both_for, can_reach, reach_at, reach_in, common_in}
use Rattle.share_core.proofs.Meets.{can_namespace, can_object, must_pool, must_namespace, must_object, is_object}
use Rattle.share_core.proofs.OneGrants.{one_grant, may_by}

abbrev Entry : Type 0
Entry = List ℕ × AllowGrant

at_once : {X : Type 0} {a b : X} → Some a ≡ Some b → a ≡ b
at_once e = cc

at_place : {X : Type 0} (xs : List X) (i : ℕ) (x : X) → i < length xs → x ≡ get_or xs i x → drop i xs ≡ x ∷ drop (i + 1) xs
at_place xs i x inside at = drop_more xs i x inside ∙ ap (λ y. y ∷ drop (i + 1) xs) (sym at)

-- one pool

pub matched_in : (pool : Pool) (g h : AllowGrant) → namespaces_meet g.namespace h.namespace ≡ true → prefixes_meet g.prefix h.prefix ≡ true → both_for g h pool ≡ true
    → (matches g (common_in pool g h) ≡ true) × (matches h (common_in pool g h) ≡ true)
matched_in pool g h n p b =
    let namespace = can_namespace g.namespace h.namespace n in
    let object = can_object g.prefix h.prefix p in
    let mine = both_left (is_for g pool) _ b in
    let theirs = both_right (is_for g pool) _ b in (
      both _ _ (both _ _ (both _ _ (both_left (names g.pool pool.name) _ mine) namespace.0) (both_right (names g.pool pool.name) _ mine)) object.0,
      both _ _ (both _ _ (both _ _ (both_left (names h.pool pool.name) _ theirs) namespace.1) (both_right (names h.pool pool.name) _ theirs)) object.1,
    )

-- two grants that reach in a pool, one of each list, share at their common target there
pub shared_at : (pool : Pool) (ones others : List Entry) (one other : Touch) (i j : ℕ) (mine theirs : Entry) → slice_get ones i ≡ Some mine → slice_get others j ≡ Some theirs
    → can_reach one other mine.1 theirs.1 ≡ true → both_for mine.1 theirs.1 pool ≡ true → IsSharedIn pool ones one others other (common_in pool mine.1 theirs.1)
shared_at pool ones others one other i j mine theirs at bt h b =
    let g = mine.1 in
    let k = theirs.1 in
    let third = both_left (gives g.access one && gives k.access other && namespaces_meet g.namespace k.namespace) _ h in
    let second = both_left (gives g.access one && gives k.access other) _ third in
    let matched = matched_in pool g k (both_right (gives g.access one && gives k.access other) _ third)
    (both_right (gives g.access one && gives k.access other && namespaces_meet g.namespace k.namespace) _ h) b in (
      refl,
      refl,
      may_by ones (common_in pool g k) one i mine at matched.0 (both_left (gives g.access one) _ second),
      may_by others (common_in pool g k) other j theirs bt matched.1 (both_right (gives g.access one) _ second),
    )

-- a grant that matches a target of a pool is for the pool
is_for_so : (g : AllowGrant) (pool : Pool) (target : Target) → target.pool ≡ pool.name → target.tags ≡ pool.tags → matches g target ≡ true → is_for g pool ≡ true
is_for_so g pool target named tagged h =
    let third = both_left (names g.pool target.pool && matches_namespace g.namespace target.namespace && matches_tag g.tag target.tags) _ h in
    let second = both_left (names g.pool target.pool && matches_namespace g.namespace target.namespace) _ third in
    both _ _
    (subst (λ name. names g.pool name ≡ true) named (both_left (names g.pool target.pool) _ second))
    (subst (λ tags. matches_tag g.tag tags ≡ true) tagged (both_right (names g.pool target.pool && matches_namespace g.namespace target.namespace) _ third))

-- whatever is shared in a pool is shared by two grants that reach there
pub record ReachedAt (pool : Pool) (ones : List Entry) (one : Touch) (others : List Entry) (other : Touch) : Type 0 where
  pub i : ℕ
  pub j : ℕ
  pub mine : Entry
  pub theirs : Entry
  pub at : slice_get ones i ≡ Some mine
  pub bt : slice_get others j ≡ Some theirs
  pub can : can_reach one other mine.1 theirs.1 ≡ true
  pub both : both_for mine.1 theirs.1 pool ≡ true

can_so : (one other : Touch) (g h : AllowGrant) (target : Target) → gives g.access one ≡ true → gives h.access other ≡ true → matches g target ≡ true → matches h target ≡ true
    → can_reach one other g h ≡ true
can_so one other g h target gg hg a b =
    let a3 = both_left (names g.pool target.pool && matches_namespace g.namespace target.namespace && matches_tag g.tag target.tags) _ a in
    let a2 = both_left (names g.pool target.pool && matches_namespace g.namespace target.namespace) _ a3 in
    let b3 = both_left (names h.pool target.pool && matches_namespace h.namespace target.namespace && matches_tag h.tag target.tags) _ b in
    let b2 = both_left (names h.pool target.pool && matches_namespace h.namespace target.namespace) _ b3 in
    both _ _
    (both _ _ (both _ _ gg hg)
    (must_namespace g.namespace h.namespace target.namespace (both_right (names g.pool target.pool) _ a2) (both_right (names h.pool target.pool) _ b2)))
    (must_object g.prefix h.prefix target.object
    (both_right (names g.pool target.pool && matches_namespace g.namespace target.namespace && matches_tag g.tag target.tags) _ a)
    (both_right (names h.pool target.pool && matches_namespace h.namespace target.namespace && matches_tag h.tag target.tags) _ b))

pub reached_at : (pool : Pool) (ones others : List Entry) (one other : Touch) → ShareInOne pool ones one others other → ReachedAt pool ones one others other
reached_at pool ones others one other share =
    let target = share.0 in
    let named = share.1.0 in
    let tagged = share.1.1 in
    let mine = one_grant ones target one share.1.2 in
    let theirs = one_grant others target other share.1.3 in
    record {
      i = mine.index;
      j = theirs.index;
      mine = mine.entry;
      theirs = theirs.entry;
      at = mine.at;
      bt = theirs.at;
      can = can_so one other mine.entry.1 theirs.entry.1 target mine.given theirs.given mine.matched theirs.matched;
      both = both _ _ (is_for_so mine.entry.1 pool target named tagged mine.matched) (is_for_so theirs.entry.1 pool target named tagged theirs.matched);
    }

-- some pools

-- where both are for one pool, their pools meet
meet_so : (g h : AllowGrant) (pool : Pool) → both_for g h pool ≡ true → pools_meet g.pool h.pool ≡ true
meet_so g h pool b =
    must_pool g.pool h.pool pool.name (both_left (names g.pool pool.name) _ (both_left (is_for g pool) _ b)) (both_left (names h.pool pool.name) _ (both_right (is_for g pool) _ b))

share_there : (pools : List Pool) (ones others : List Entry) (one other : Touch) (i : ℕ) (pool : Pool) → slice_get pools i ≡ Some pool → ShareInOne pool ones one others other
    → ShareIn pools ones one others other
share_there [] ones others one other i pool at h = absurd (cc)
share_there (p ∷ pools) ones others one other zero pool at h = inl (subst (λ q. ShareInOne q ones one others other) (sym (at_once at)) h)
share_there (p ∷ pools) ones others one other (suc i) pool at h = inr (share_there pools ones others one other i pool at h)

pub share_so : (pools : List Pool) (ones others : List Entry) (one other : Touch)
    → list_any (λ mine. list_any (λ theirs. reach_in pools one other mine.1 theirs.1) others) ones ≡ true → ShareIn pools ones one others other
share_so pools ones others one other h =
    let mine = some_pass (λ mine. list_any (λ theirs. reach_in pools one other mine.1 theirs.1) others) ones h in
    let theirs = some_pass (λ theirs. reach_in pools one other mine.1.0.1 theirs.1) others mine.1.1.1 in
    let g = mine.1.0.1 in
    let k = theirs.1.0.1 in
    let can = both_left (can_reach one other g k) _ theirs.1.1.1 in
    let found = some_pass (both_for g k) pools (both_right (pools_meet g.pool k.pool) _ (both_right (can_reach one other g k) _ theirs.1.1.1)) in
    share_there pools ones others one other found.0 found.1.0 found.1.1.0
    (common_in found.1.0 g k, shared_at found.1.0 ones others one other mine.0 theirs.0 mine.1.0 theirs.1.0 mine.1.1.0 theirs.1.1.0 can found.1.1.1)

any_for : (pools : List Pool) (g h : AllowGrant) (i : ℕ) (pool : Pool) → slice_get pools i ≡ Some pool → both_for g h pool ≡ true → (pools_meet g.pool h.pool && list_any (both_for g h) pools) ≡ true
any_for pools g h i pool at b = both _ _ (meet_so g h pool b) (any_at (both_for g h) pools i pool at b)

shared_where : (pools : List Pool) (ones others : List Entry) (one other : Touch) → ShareIn pools ones one others other
    → (i : ℕ) × (pool : Pool) × (slice_get pools i ≡ Some pool) × ShareInOne pool ones one others other
shared_where [] ones others one other h = absurd h
shared_where (pool ∷ pools) ones others one other (inl h) = (0, pool, refl, h)
shared_where (pool ∷ pools) ones others one other (inr h) =
    let found = shared_where pools ones others one other h in
    (suc found.0, found.1, found.2, found.3)

pub so_share : (pools : List Pool) (ones others : List Entry) (one other : Touch) → ShareIn pools ones one others other
    → list_any (λ mine. list_any (λ theirs. reach_in pools one other mine.1 theirs.1) others) ones ≡ true
so_share pools ones others one other share =
    let (i, pool, at, here) = shared_where pools ones others one other share in
    let r = reached_at pool ones others one other here in
    any_at (λ mine. list_any (λ theirs. reach_in pools one other mine.1 theirs.1) others) ones r.i r.mine r.at
    (any_at (λ theirs. reach_in pools one other r.mine.1 theirs.1) others r.j r.theirs r.bt (both _ _ r.can (any_for pools r.mine.1 r.theirs.1 i pool at r.both)))

-- whatever is shared in some pools is shared by two grants whose pools meet
pub record PoolsMeetIn (ones others : List Entry) : Type 0 where
  pub i : ℕ
  pub j : ℕ
  pub mine : Entry
  pub theirs : Entry
  pub at : slice_get ones i ≡ Some mine
  pub bt : slice_get others j ≡ Some theirs
  pub meets : pools_meet mine.1.pool theirs.1.pool ≡ true

pub pools_meet_in : (pools : List Pool) (ones others : List Entry) (one other : Touch) → ShareIn pools ones one others other → PoolsMeetIn ones others
pools_meet_in pools ones others one other share =
    let (i, pool, at, here) = shared_where pools ones others one other share in
    let r = reached_at pool ones others one other here in
    record { i = r.i; j = r.j; mine = r.mine; theirs = r.theirs; at = r.at; bt = r.bt; meets = meet_so r.mine.1 r.theirs.1 pool r.both }

-- the example of a pool

-- what the test finds
pub found_by : {X : Type 0} (p : X → Bool) (xs : List X) (x : X) → find p xs ≡ Some x → (i : ℕ) × (slice_get xs i ≡ Some x) × (p x ≡ true)
found_by p [] x h = absurd (cc)
found_by {X} p (y ∷ ys) x h = go (p y) refl h (found_by p ys x)
  where
    go : (b : Bool) → p y ≡ b → (if b then Some y else find p ys) ≡ Some x → (find p ys ≡ Some x → (i : ℕ) × (slice_get ys i ≡ Some x) × (p x ≡ true))
        → (i : ℕ) × (slice_get (y ∷ ys) i ≡ Some x) × (p x ≡ true)
    go true e k more = (0, k, subst (λ z. p z ≡ true) (at_once k) e)
    go false e k more =
        let later = more k in
        (suc later.0, later.1, later.2)

pub none_by : {X : Type 0} (p : X → Bool) (xs : List X) → find p xs ≡ None → list_any p xs ≡ false
none_by p [] h = refl
none_by p (y ∷ ys) h = go (p y) h (none_by p ys)
  where
    go : (b : Bool) → (if b then Some y else find p ys) ≡ None → (find p ys ≡ None → list_any p ys ≡ false) → (b || list_any p ys) ≡ false
    go true k more = absurd (cc)
    go false k more = more k

pub example_of : (pool : Pool) (ones others : List Entry) (one other : Touch) (i j : ℕ) (mine theirs : Entry) → slice_get ones i ≡ Some mine → slice_get others j ≡ Some theirs
    → reach_at pool one other mine.1 theirs.1 ≡ true → IsExampleAt pool ones one others other (Some (common_in pool mine.1 theirs.1))
example_of pool ones others one other i j mine theirs at bt h = (
  shared_at pool ones others one other i j mine theirs at bt (both_left (can_reach one other mine.1 theirs.1) _ h) (both_right (can_reach one other mine.1 theirs.1) _ h),
  is_object mine.1.prefix theirs.1.prefix,
)

-- no grant before a place reaches any of the others
abbrev pub NoneBefore : Pool → Touch → Touch → List Entry → List Entry → ℕ → Type 0
NoneBefore pool one other ones others i = (k : ℕ) (mine : Entry) → slice_get ones k ≡ Some mine → k < i → list_any (λ theirs. reach_at pool one other mine.1 theirs.1) others ≡ false

pub none_more : (pool : Pool) (one other : Touch) (ones others : List Entry) (i : ℕ) (mine : Entry) → slice_get ones i ≡ Some mine
    → find (λ theirs. reach_at pool one other mine.1 theirs.1) others ≡ None → NoneBefore pool one other ones others i → NoneBefore pool one other ones others (i + 1)
none_more pool one other ones others i mine at none before k entry kt low = elim (true_or_false (nat_eq k i)) [
  | inr other ↦ before k entry kt (lower k i low other)
  | inl here ↦ (
      let same : mine ≡ entry = at_once (sym at ∙ (ap (λ n. slice_get ones n) (sym ((Decides-eqb k i).0 here)) ∙ kt)) in
      subst (λ (e : Entry). list_any (λ theirs. reach_at pool one other e.1 theirs.1) others ≡ false) same (none_by (λ theirs. reach_at pool one other mine.1 theirs.1) others none)
      )
]
  where
    lower : (a b : ℕ) → a < b + 1 → nat_eq a b ≡ false → a < b
    lower a b h e =
        let differs : a ≢ b = λ same. false≢true (sym e ∙ (Decides-eqb a b).1 same) in
        omega arith

pub none_at : (pool : Pool) (one other : Touch) (ones others : List Entry) (i : ℕ) → length ones ≤ i → NoneBefore pool one other ones others i → IsExampleAt pool ones one others other None
none_at pool one other ones others i past before share =
    let r = reached_at pool ones others one other share in
    let inside : r.i < length ones = slice_get_within ones r.i r.mine r.at in
    false≢true (sym (before r.i r.mine r.at (omega arith))
    ∙ any_at (λ theirs. reach_at pool one other r.mine.1 theirs.1) others r.j r.theirs r.bt (both _ _ r.can r.both))

-- what is found in the rest of the pools is what is found in all
abbrev pub NoneSoFar : List Pool → Touch → Touch → List Entry → List Entry → ℕ → Type 0
NoneSoFar pools one other ones others i = (found : Option Target) → IsExampleIn (drop i pools) ones one others other found → IsExampleIn pools ones one others other found

pub here_first : (pools : List Pool) (one other : Touch) (ones others : List Entry) (i : ℕ) (pool : Pool) (found : Option Target) (target : Target) → i < length pools → pool ≡ get_or pools i pool
    → found ≡ Some target → IsExampleAt pool ones one others other found → NoneSoFar pools one other ones others i → IsExampleIn pools ones one others other found
here_first pools one other ones others i pool found target inside at is example so_far =
    so_far found (subst (λ l. IsExampleIn l ones one others other found) (sym (at_place pools i pool inside at)) (inl (target, is, example)))

pub none_here : (pools : List Pool) (one other : Touch) (ones others : List Entry) (i : ℕ) (pool : Pool) → i < length pools → pool ≡ get_or pools i pool
    → IsExampleAt pool ones one others other None → NoneSoFar pools one other ones others i → NoneSoFar pools one other ones others (i + 1)
none_here pools one other ones others i pool inside at none so_far found later =
    so_far found (subst (λ l. IsExampleIn l ones one others other found) (sym (at_place pools i pool inside at)) (inr (none, later)))

pub none_in : (pools : List Pool) (one other : Touch) (ones others : List Entry) (i : ℕ) → length pools ≤ i → NoneSoFar pools one other ones others i → IsExampleIn pools ones one others other None
none_in pools one other ones others i past so_far = so_far None (subst (λ l. IsExampleIn l ones one others other None) (sym (drop_all i pools past)) refl)

-- what an answer by reference is

pub was_some : {X : Type 0} (r : Option (Bor X)) (x : Bor X) → r ≡ Some x → (o : Option X) → option_copied r ≡ o → o ≡ Some x.now
was_some r x is o same = sym same ∙ ap (λ s. option_copied s) is

pub was_none : {X : Type 0} (r : Option (Bor X)) → ((x : Bor X) → r ≡ Some x → ⊥) → (o : Option X) → option_copied r ≡ o → o ≡ None
was_none None h o same = sym same
was_none (Some x) h o same = absurd (h x refl)

pub at_index : {X : Type 0} (xs : List X) (i : ℕ) (x : X) → i < length xs → x ≡ get_or xs i x → slice_get xs i ≡ Some x
at_index xs i x inside is = slice_get-get_or xs i x inside ∙ ap (λ y. Some y) (sym is)

-- where no pool has an example, nothing is shared in any
pub nothing_in : (pools : List Pool) (ones others : List Entry) (one other : Touch) → IsExampleIn pools ones one others other None → ShareIn pools ones one others other → ⊥
nothing_in [] ones others one other none share = share
nothing_in (pool ∷ pools) ones others one other (inl found) share = absurd (none_is_some found.1)
  where
    none_is_some : {X : Type 0} {x : X} → None ≡ Some x → ⊥
    none_is_some e = cc
nothing_in (pool ∷ pools) ones others one other (inr none) (inl here) = none.0 here
nothing_in (pool ∷ pools) ones others one other (inr none) (inr later) = nothing_in pools ones others one other none.1 later
