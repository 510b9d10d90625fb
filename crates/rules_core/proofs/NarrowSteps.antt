-- Grants as they are in one pool allow there what the grants allow.
use Rattle.std.proofs.Common.{◌≡◌, ℕ, zero, suc, ◌<◌, ◌≤◌, get_or, is_some, append_assoc, List, [], ◌∷◌, ◌++◌, Bool, true, false, not, ◌&&◌, ◌||◌, Option, None, Some, slice_get, length, refl, sym, ap, subst, ◌∙◌, ◌⊎◌, inl, inr, arith, if◌then◌else◌}
use Rattle.std.specs.List.{list_any, list_all}
use Rattle.std.specs.Option.{MatchOption}
use Rattle.std.specs.Str.{bytes_eq}
use Rattle.std.proofs.lemmas.Bool.{false≢true}
use Rattle.cap_grants.specs.declared.grant.AllowGrant.{AllowGrant}
use Rattle.grant_core.specs.Flat.{Flat}
use Rattle.request_types.specs.Target.{Target}
use Rattle.request_types.specs.declared.request.ClassCall.{ClassCall}
use Rattle.request_types.specs.declared.request.Needs.{Needs}
use Rattle.verdict_core.specs.Verdict.{can_read, can_write, covers, grants_allow, is_covered, is_usable, matches, matches_namespace, matches_prefix, matches_tag, names}
use Rattle.compare_core.specs.Widening.{AnswersBy, IsExampleBy, WidensBy}
use Rattle.compare_core.specs.declared.comparing.Example.{Example}
use Rattle.compare_core.specs.declared.registry.Registry.TheVariants.{Every}
use Rattle.compare_core.proofs.Bools.{both, both_left, both_right, fails, some_pass, true_or_false}
use Rattle.compare_core.proofs.Fronts.{same_text, text_same}
use Rattle.compare_core.proofs.Gains.{allowed_among, nothing_widens}
use Rattle.compare_core.proofs.Possible.{no_application}
use Rattle.share_core.specs.Pools.{is_for}
use Rattle.share_core.specs.declared.pools.Pool.{Pool}
use Rattle.rules_core.specs.Broken.{IsBroken, IsGivenBy}
use Rattle.rules_core.specs.Breaking.{IsBrokenBy}
use Rattle.rules_core.specs.Demands.{IsIn}
use Rattle.rules_core.specs.Narrowed.{at_pool, narrow, narrowed, placed}
use Rattle.rules_core.specs.declared.demand.Demand.TheVariants.{Always}
use Rattle.rules_core.proofs.SoFar.{Each, item_at}

abbrev Entry : Type 0
Entry = List ℕ × AllowGrant

-- ---- one grant

matches_alike : (g : AllowGrant) (pool : Pool) (t : Target) → t.pool ≡ pool.name → is_for g pool ≡ true → matches (narrow pool g) t ≡ matches g (at_pool pool t)
matches_alike g pool t named for =
    alike (bytes_eq pool.name t.pool) (names g.pool pool.name) (matches_tag g.tag pool.tags) (matches_namespace g.namespace t.namespace) (matches_prefix g.prefix t.object)
    (text_same pool.name t.pool (sym named)) (both_left (names g.pool pool.name) _ for) (both_right (names g.pool pool.name) _ for)
  where
    alike : (a b c n p : Bool) → a ≡ true → b ≡ true → c ≡ true → (a && n && true && p) ≡ (b && n && c && p)
    alike a b c n p x y z = cc

usable_alike : (g : AllowGrant) (pool : Pool) (t : Target) (needs : Needs) → t.pool ≡ pool.name → is_for g pool ≡ true → is_usable (narrow pool g) t needs ≡ is_usable g (at_pool pool t) needs
usable_alike g pool t needs named for = ap (λ b. b && (not needs.reads || can_read g.access) && (not needs.writes || can_write g.access)) (matches_alike g pool t named for)

-- a grant that matches a target of the pool is for the pool
for_it : (g : AllowGrant) (pool : Pool) (t : Target) → matches g (at_pool pool t) ≡ true → is_for g pool ≡ true
for_it g pool t h =
    let third = both_left (names g.pool pool.name && matches_namespace g.namespace t.namespace && matches_tag g.tag pool.tags) _ h in
    both _ _
    (both_left (names g.pool pool.name) _ (both_left (names g.pool pool.name && matches_namespace g.namespace t.namespace) _ third))
    (both_right (names g.pool pool.name && matches_namespace g.namespace t.namespace) _ third)

usable_for : (g : AllowGrant) (pool : Pool) (t : Target) (needs : Needs) → is_for g pool ≡ false → is_usable g (at_pool pool t) needs ≡ false
usable_for g pool t needs not_for =
    fails (is_usable g (at_pool pool t) needs)
    (λ h. false≢true (sym not_for ∙ for_it g pool t (both_left (matches g (at_pool pool t)) _ (both_left (matches g (at_pool pool t) && (not needs.reads || can_read g.access)) _ h))))

-- ---- lists of grants

-- a test of grants that passes those for the pool alike, and no other
record Alike (pool : Pool) (p q : AllowGrant → Bool) : Type 0 where
  same : (g : AllowGrant) → is_for g pool ≡ true → p (narrow pool g) ≡ q g
  none : (g : AllowGrant) → is_for g pool ≡ false → q g ≡ false

kept : (b : Bool) (x : Entry) (xs : Flat) → b ≡ true → (if b then x ∷ xs else xs) ≡ x ∷ xs
kept b x xs h = rw h refl

left_out : (b : Bool) (x : Entry) (xs : Flat) → b ≡ false → (if b then x ∷ xs else xs) ≡ xs
left_out b x xs h = rw h refl

any_alike : (pool : Pool) (p q : AllowGrant → Bool) → Alike pool p q → (grants : Flat) → list_any (λ (e : Entry). p e.1) (narrowed pool grants) ≡ list_any (λ (e : Entry). q e.1) grants
any_alike pool p q alike [] = refl
any_alike pool p q alike (entry ∷ grants) = elim (true_or_false (is_for entry.1 pool)) [
  | inl for ↦
      ap (list_any (λ (e : Entry). p e.1)) (kept (is_for entry.1 pool) (entry.0, narrow pool entry.1) (narrowed pool grants) for)
      ∙ (λ i. alike.same entry.1 for i || any_alike pool p q alike grants i)
  | inr not_for ↦
      ap (list_any (λ (e : Entry). p e.1)) (left_out (is_for entry.1 pool) (entry.0, narrow pool entry.1) (narrowed pool grants) not_for)
      ∙ (any_alike pool p q alike grants ∙ ap (λ b. b || list_any (λ (e : Entry). q e.1) grants) (sym (alike.none entry.1 not_for)))
]

usable_tests : (pool : Pool) (t : Target) (needs : Needs) → t.pool ≡ pool.name → Alike pool (λ g. is_usable g t needs) (λ g. is_usable g (at_pool pool t) needs)
usable_tests pool t needs named = record { same = λ g for. usable_alike g pool t needs named for; none = λ g not_for. usable_for g pool t needs not_for }

and_none : (a b : Bool) → a ≡ false → (a && b) ≡ false
and_none true b h = absurd (false≢true (sym h))
and_none false b h = refl

covered_tests : (pool : Pool) (t : Target) (needs : Needs) (call : ClassCall) → t.pool ≡ pool.name
    → Alike pool (λ g. is_usable g t needs && covers g.access call) (λ g. is_usable g (at_pool pool t) needs && covers g.access call)
covered_tests pool t needs call named = record {
  same = λ g for. ap (λ b. b && covers g.access call) (usable_alike g pool t needs named for);
  none = λ g not_for. and_none (is_usable g (at_pool pool t) needs) (covers g.access call) (usable_for g pool t needs not_for);
}

all_alike : (p q : ClassCall → Bool) → ((call : ClassCall) → p call ≡ q call) → (calls : List ClassCall) → list_all p calls ≡ list_all q calls
all_alike p q same [] = refl
all_alike p q same (call ∷ calls) = λ i. same call i && all_alike p q same calls i

pub narrow_allow : (pool : Pool) (grants : Flat) (t : Target) (needs : Needs) → t.pool ≡ pool.name → grants_allow (narrowed pool grants) t needs ≡ grants_allow grants (at_pool pool t) needs
narrow_allow pool grants t needs named =
    λ i. any_alike pool (λ g. is_usable g t needs) (λ g. is_usable g (at_pool pool t) needs) (usable_tests pool t needs named) grants i
    && all_alike (is_covered (narrowed pool grants) t needs) (is_covered grants (at_pool pool t) needs)
    (λ call. any_alike pool (λ g. is_usable g t needs && covers g.access call) (λ g. is_usable g (at_pool pool t) needs && covers g.access call) (covered_tests pool t needs call named) grants)
    needs.calls i

-- a narrowed grant is one of the grants
record Narrows (pool : Pool) (grants : Flat) (entry : Entry) : Type 0 where
  index : ℕ
  own : Entry
  at : slice_get grants index ≡ Some own
  for : is_for own.1 pool ≡ true
  is : entry ≡ (own.0, narrow pool own.1)

at_once : {X : Type 0} {a b : X} → Some a ≡ Some b → a ≡ b
at_once e = cc

later : (pool : Pool) (first : Entry) (grants : Flat) (entry : Entry) → Narrows pool grants entry → Narrows pool (first ∷ grants) entry
later pool first grants entry n = record { index = suc n.index; own = n.own; at = n.at; for = n.for; is = n.is }

narrow_at : (pool : Pool) (grants : Flat) (i : ℕ) (entry : Entry) → slice_get (narrowed pool grants) i ≡ Some entry → Narrows pool grants entry
narrow_at pool [] i entry at = absurd (cc)
narrow_at pool (g ∷ grants) i entry at = go (true_or_false (is_for g.1 pool)) (λ j. narrow_at pool grants j entry)
  where
    first : (j : ℕ) → slice_get ((g.0, narrow pool g.1) ∷ narrowed pool grants) j ≡ Some entry → is_for g.1 pool ≡ true → ((k : ℕ) → slice_get (narrowed pool grants) k ≡ Some entry → Narrows pool grants entry) → Narrows pool (g ∷ grants) entry
    first zero here for rest = record { index = 0; own = g; at = refl; for = for; is = sym (at_once here) }
    first (suc j) here for rest = later pool g grants entry (rest j here)

    go : (is_for g.1 pool ≡ true) ⊎ (is_for g.1 pool ≡ false) → ((k : ℕ) → slice_get (narrowed pool grants) k ≡ Some entry → Narrows pool grants entry) → Narrows pool (g ∷ grants) entry
    go (inl for) rest = first i (ap (λ l. slice_get l i) (sym (kept (is_for g.1 pool) (g.0, narrow pool g.1) (narrowed pool grants) for)) ∙ at) for rest
    go (inr not_for) rest = later pool g grants entry (rest i (ap (λ l. slice_get l i) (sym (left_out (is_for g.1 pool) (g.0, narrow pool g.1) (narrowed pool grants) not_for)) ∙ at))

-- a target that narrowed grants allow is of the pool
narrow_names : (pool : Pool) (grants : Flat) (t : Target) (needs : Needs) → grants_allow (narrowed pool grants) t needs ≡ true → t.pool ≡ pool.name
narrow_names pool grants t needs h =
    let found = some_pass (λ (e : Entry). is_usable e.1 t needs) (narrowed pool grants) (both_left _ _ h) in
    let own = narrow_at pool grants found.0 found.1.0 found.1.1.0 in
    let g : Entry = own.own in
    let useful : is_usable found.1.0.1 t needs ≡ true = found.1.1.1 in
    let matched : matches found.1.0.1 t ≡ true = both_left (matches found.1.0.1 t) _ (both_left (matches found.1.0.1 t && (not needs.reads || can_read found.1.0.1.access)) _ useful) in
    let named : matches (narrow pool g.1) t ≡ true = subst (λ (e : Entry). matches e.1 t ≡ true) own.is matched in
    sym (same_text pool.name t.pool (both_left (bytes_eq pool.name t.pool) _ (both_left (bytes_eq pool.name t.pool && matches_namespace g.1.namespace t.namespace) _ (both_left (bytes_eq pool.name t.pool && matches_namespace g.1.namespace t.namespace && true) _ named))))

-- ---- what is lacking in a pool

alone_for : (pool : Pool) (own : Entry) → is_for own.1 pool ≡ true → narrowed pool (own ∷ []) ≡ (own.0, narrow pool own.1) ∷ []
alone_for pool own for = kept (is_for own.1 pool) (own.0, narrow pool own.1) [] for

given_in : (pool : Pool) (region : Flat) (path : List ℕ) (t : Target) (needs : Needs) → t.pool ≡ pool.name → IsGivenBy (narrowed pool region) path t needs → IsGivenBy region path (at_pool pool t) needs
given_in pool region path t needs named (i, entry, at, is, allowed) =
    let n = narrow_at pool region i entry at in
    let alone : grants_allow ((n.own.0, narrow pool n.own.1) ∷ []) t needs ≡ true = subst (λ (e : Entry). grants_allow (e ∷ []) t needs ≡ true) n.is allowed in (
      n.index,
      n.own,
      n.at,
      is ∙ ap (λ (e : Entry). e.0) n.is,
      sym (narrow_allow pool (n.own ∷ []) t needs named) ∙ (ap (λ l. grants_allow l t needs) (alone_for pool n.own n.for) ∙ alone),
    )

pub lacking_placed : (pool : Pool) (region entity : Flat) (example : Example) → IsBroken Always None (narrowed pool region) (narrowed pool entity) example
    → IsBroken Always (Some (pool ∷ [])) region entity (placed pool example)
lacking_placed pool region entity example broken =
    let named : example.target.pool ≡ pool.name = narrow_names pool region example.target example.needs broken.in_region in
    record {
      asked = record { at = inl (refl, refl); needed = broken.asked.needed; listing = broken.asked.listing };
      in_region = sym (narrow_allow pool region example.target example.needs named) ∙ broken.in_region;
      breaks = sym (narrow_allow pool entity example.target example.needs named) ∙ broken.breaks;
      given = given_in pool region example.path example.target example.needs named broken.given;
    }

back : (pool : Pool) (t : Target) → t.pool ≡ pool.name → t.tags ≡ pool.tags → at_pool pool (record t { tags = [] }) ≡ t
back pool t named tagged = λ i. record { pool = sym named i; tags = sym tagged i; namespace = t.namespace; object = t.object }

pub nothing_lacking : (pool : Pool) (region entity : Flat) → IsBrokenBy Always None (narrowed pool region) (narrowed pool entity) None → IsBrokenBy Always (Some (pool ∷ [])) region entity None
nothing_lacking pool region entity none target needs (asked, allowed, denied) =
    elim asked.at [
      | inl here ↦
          let t : Target = record target { tags = [] } in
          let same : at_pool pool t ≡ target = back pool target here.0 here.1 in
          none t needs (
            record { at = no_application; needed = asked.needed; listing = asked.listing },
            narrow_allow pool region t needs here.0 ∙ (ap (λ u. grants_allow region u needs) same ∙ allowed),
            narrow_allow pool entity t needs here.0 ∙ (ap (λ u. grants_allow entity u needs) same ∙ denied),
          )
      | inr nowhere ↦ absurd nowhere
    ]

-- without grants for the pool nothing is lacking
pub empty_region : (pool : Pool) (region entity kept : Flat) → kept ≡ narrowed pool region → kept ≡ [] → IsBrokenBy Always (Some (pool ∷ [])) region entity None
empty_region pool region entity kept is empty =
    nothing_lacking pool region entity (λ target needs breaks. false≢true (ap (λ l. grants_allow l target needs) (sym (sym is ∙ empty)) ∙ breaks.1))

-- ---- over pools

is_in_one : (pools : List Pool) (target : Target) → IsIn pools target → (i : ℕ) × (pool : Pool) × (slice_get pools i ≡ Some pool) × IsIn (pool ∷ []) target
is_in_one [] target at = absurd at
is_in_one (pool ∷ pools) target (inl here) = (0, pool, refl, inl here)
is_in_one (pool ∷ pools) target (inr later) = let found = is_in_one pools target later in (suc found.0, found.1, found.2, found.3)

in_all : (pools : List Pool) (i : ℕ) (pool : Pool) (target : Target) → slice_get pools i ≡ Some pool → IsIn (pool ∷ []) target → IsIn pools target
in_all [] i pool target at h = absurd (cc)
in_all (p ∷ pools) zero pool target at (inl here) = inl (subst (λ (q : Pool). (target.pool ≡ q.name) × (target.tags ≡ q.tags)) (sym (at_once at)) here)
in_all (p ∷ pools) zero pool target at (inr nowhere) = absurd nowhere
in_all (p ∷ pools) (suc i) pool target at h = inr (in_all pools i pool target at h)

pub lacking_among : (pools : List Pool) (i : ℕ) (pool : Pool) (region entity : Flat) (example : Example) → slice_get pools i ≡ Some pool → IsBroken Always (Some (pool ∷ [])) region entity example
    → IsBroken Always (Some pools) region entity example
lacking_among pools i pool region entity example at broken = record {
  asked = record { at = in_all pools i pool example.target at broken.asked.at; needed = broken.asked.needed; listing = broken.asked.listing };
  in_region = broken.in_region;
  breaks = broken.breaks;
  given = broken.given;
}

-- nothing is lacking in the pool
abbrev pub LacksNothing : Flat → Flat → Pool → Type 0
LacksNothing region entity pool = IsBrokenBy Always (Some (pool ∷ [])) region entity None

pub nothing_among : (pools : List Pool) (region entity : Flat) → Each (LacksNothing region entity) pools → IsBrokenBy Always (Some pools) region entity None
nothing_among pools region entity none target needs (asked, allowed, denied) =
    let found = is_in_one pools target asked.at in
    none found.0 found.1 found.2 target needs (record { at = found.3; needed = asked.needed; listing = asked.listing }, allowed, denied)

-- ---- of any pool, grant by grant

-- the grant by itself widens nothing
abbrev pub IsSilent : Flat → Entry → Type 0
IsSilent entity entry = ¬ WidensBy Every entity (entry ∷ [])

all_silent : (entity region : Flat) → Each (IsSilent entity) region → AnswersBy Every entity region []
all_silent entity [] each = tt
all_silent entity (entry ∷ region) each = (each 0 entry refl, all_silent entity region (λ k x at. each (suc k) x at))

pub silent_region : (entity region : Flat) → Each (IsSilent entity) region → IsBrokenBy Always None region entity None
silent_region entity region each target needs (asked, allowed, denied) =
    nothing_widens Every entity region (all_silent entity region each)
    (record { target = target; needs = needs }, (record { tags = asked.at; needs = asked.needed; listing = asked.listing }, allowed, denied))

pub example_lacks : (entity region : Flat) (i : ℕ) (entry : Entry) (example : Example) → slice_get region i ≡ Some entry → IsExampleBy Every entity entry example → IsBroken Always None region entity example
example_lacks entity region i entry example at (same, gained) = record {
  asked = record { at = gained.0.tags; needed = gained.0.needs; listing = gained.0.listing };
  in_region = allowed_among region i entry example.target example.needs at gained.1;
  breaks = gained.2;
  given = (i, entry, at, same, gained.1);
}

-- ---- as many at most

pub length-narrowed : (pool : Pool) (grants : Flat) → length (narrowed pool grants) ≤ length grants
length-narrowed pool [] = omega arith
length-narrowed pool (entry ∷ grants) = elim (true_or_false (is_for entry.1 pool)) [
  | inl for ↦ omega (arith, length-narrowed pool grants, ap length (kept (is_for entry.1 pool) (entry.0, narrow pool entry.1) (narrowed pool grants) for))
  | inr not_for ↦ omega (arith, length-narrowed pool grants, ap length (left_out (is_for entry.1 pool) (entry.0, narrow pool entry.1) (narrowed pool grants) not_for))
]

-- ---- one grant after another

pub lacks_found : (entity region : Flat) (i : ℕ) (entry : Entry) (found : Option Example) → i < length region → entry ≡ get_or region i entry → is_some found ≡ true
    → MatchOption found (¬ WidensBy Every entity (entry ∷ [])) (λ example. IsExampleBy Every entity entry example) → IsBrokenBy Always None region entity found
lacks_found entity region i entry None inside is some h = absurd (false≢true some)
lacks_found entity region i entry (Some example) inside is some h = example_lacks entity region i entry example (item_at region i entry inside is) h

pub lacks_not : (entity : Flat) (entry : Entry) (found : Option Example) → is_some found ≡ false → MatchOption found (¬ WidensBy Every entity (entry ∷ [])) (λ example. IsExampleBy Every entity entry example) → IsSilent entity entry
lacks_not entity entry None none h = h
lacks_not entity entry (Some example) none h = absurd (false≢true (sym none))

-- ---- one pool after another

pub lacks_in_found : (pools : List Pool) (i : ℕ) (pool : Pool) (region entity : Flat) (found : Option Example) → i < length pools → pool ≡ get_or pools i pool → is_some found ≡ true
    → IsBrokenBy Always (Some (pool ∷ [])) region entity found → IsBrokenBy Always (Some pools) region entity found
lacks_in_found pools i pool region entity None inside is some h = absurd (false≢true some)
lacks_in_found pools i pool region entity (Some example) inside is some h = lacking_among pools i pool region entity example (item_at pools i pool inside is) h

pub lacks_in_not : (pool : Pool) (region entity : Flat) (found : Option Example) → is_some found ≡ false → IsBrokenBy Always (Some (pool ∷ [])) region entity found → LacksNothing region entity pool
lacks_in_not pool region entity None none h = h
lacks_in_not pool region entity (Some example) none h = absurd (false≢true (sym none))

-- what is found of narrowed grants

pub found_placed : (pool : Pool) (region entity narrow_region narrow_entity : Flat) (found : Option Example) (example shown : Example) → narrow_region ≡ narrowed pool region → narrow_entity ≡ narrowed pool entity
    → found ≡ Some example → shown ≡ placed pool example → IsBrokenBy Always None narrow_region narrow_entity found → IsBroken Always (Some (pool ∷ [])) region entity shown
found_placed pool region entity narrow_region narrow_entity found example shown p q some is h =
    subst (IsBroken Always (Some (pool ∷ [])) region entity) (sym is)
    (lacking_placed pool region entity example
    (subst (λ l. IsBroken Always None l (narrowed pool entity) example) p (subst (λ l. IsBroken Always None narrow_region l example) q (subst (IsBrokenBy Always None narrow_region narrow_entity) some h))))

pub found_nowhere : (pool : Pool) (region entity narrow_region narrow_entity : Flat) (found : Option Example) → narrow_region ≡ narrowed pool region → narrow_entity ≡ narrowed pool entity
    → found ≡ None → IsBrokenBy Always None narrow_region narrow_entity found → IsBrokenBy Always (Some (pool ∷ [])) region entity None
found_nowhere pool region entity narrow_region narrow_entity found p q none h =
    nothing_lacking pool region entity
    (subst (λ l. IsBrokenBy Always None l (narrowed pool entity) None) p (subst (λ l. IsBrokenBy Always None narrow_region l None) q (subst (IsBrokenBy Always None narrow_region narrow_entity) none h)))

pub few_narrowed : (pool : Pool) (grants held kept : Flat) → held ≡ grants → length held ≤ 16384 → kept ≡ narrowed pool held → length kept ≤ 16384
few_narrowed pool grants held kept same few is = omega (arith, length-narrowed pool held, ap length is)

-- one more grant is kept or left out

pub kept_more : (pool : Pool) (entry : Entry) (others before whole : Flat) (path : List ℕ) (g : AllowGrant) → is_for entry.1 pool ≡ true → path ≡ entry.0 → g ≡ narrow pool entry.1
    → before ++ narrowed pool (entry ∷ others) ≡ whole → (before ++ (path, g) ∷ []) ++ narrowed pool others ≡ whole
kept_more pool entry others before whole path g for p q h =
    append_assoc before ((path, g) ∷ []) (narrowed pool others)
    ∙ (ap (λ (e : Entry). before ++ e ∷ narrowed pool others) (λ i. (p i, q i))
    ∙ (ap (λ l. before ++ l) (sym (kept (is_for entry.1 pool) (entry.0, narrow pool entry.1) (narrowed pool others) for)) ∙ h))

pub left_more : (pool : Pool) (entry : Entry) (others before whole : Flat) → is_for entry.1 pool ≡ false → before ++ narrowed pool (entry ∷ others) ≡ whole → before ++ narrowed pool others ≡ whole
left_more pool entry others before whole not_for h =
    ap (λ l. before ++ l) (sym (left_out (is_for entry.1 pool) (entry.0, narrow pool entry.1) (narrowed pool others) not_for)) ∙ h
