-- Statement: contracts of public calls use it.
-- Whether two tickets reach a common object, said by what is allowed alone.
-- Source: this project's profile. What tags a pool can have is the Ceph manual's Pools chapter, "Associating a pool with an application".
use Rattle.std.specs.Prelude.{◌≡◌, ◌≢◌, ℕ, List, [], ◌∷◌, map, flat_map, Bool, true, false, ◌||◌, ◌⊎◌, AllPairs, Option, Some, None}
use Rattle.std.specs.List.{All, list_any}
use Rattle.cap_grants.specs.declared.grant.AllowGrant.{AllowGrant}
use Rattle.common_types.specs.declared.tags.AppTags.{AppTags}
pub use Rattle.map_core.specs.PossibleTags.{ArePossible}
use Rattle.request_types.specs.Target.{Target}
use Rattle.verdict_core.specs.Verdict.{grants_allow}
use Rattle.request_types.specs.declared.request.ClassCall.{ClassCall}
use Rattle.request_types.specs.declared.request.Needs.{Needs}
use Rattle.share_core.specs.declared.touches.Touch.{Touch}
use Rattle.share_core.specs.declared.touches.Touch.TheVariants.{Read, Write, Call, AnyRead, AnyWrite}
use Rattle.share_core.specs.declared.reaching.Shared.{Shared}
use Rattle.share_core.specs.declared.pools.Pool.{Pool}

abbrev pub a_read : Needs
a_read = record { reads = true; writes = false; calls = [] }

abbrev pub a_write : Needs
a_write = record { reads = false; writes = true; calls = [] }

abbrev pub a_call : ClassCall → Needs
a_call call = record { reads = false; writes = false; calls = call ∷ [] }

-- a request reads or writes: it asks to itself, or has a call whose method does so

abbrev pub reads_so : Needs → Bool
reads_so needs = needs.reads || list_any (λ call. call.class_reads) needs.calls

abbrev pub writes_so : Needs → Bool
writes_so needs = needs.writes || list_any (λ call. call.class_writes) needs.calls

-- The requests that touch an object in one way. Calls are of any class and any method, on the default list or not, and the
-- methods do whatever the calls say: that is every class registry.
abbrev pub IsTouch : Touch → Needs → Type 0
IsTouch Read needs = needs ≡ a_read
IsTouch Write needs = needs ≡ a_write
IsTouch (Call call) needs = needs ≡ a_call call
IsTouch AnyRead needs = reads_so needs ≡ true
IsTouch AnyWrite needs = writes_so needs ≡ true

-- grants allow some request that touches a target so
abbrev pub May : List (List ℕ × AllowGrant) → Target → Touch → Type 0
May grants target touch = (needs : Needs) × IsTouch touch needs × (grants_allow grants target needs ≡ true)

-- a target of a pool that can be, at which the ones may touch as the one does, and the others as the other does
abbrev pub IsShared : List (List ℕ × AllowGrant) → Touch → List (List ℕ × AllowGrant) → Touch → Target → Type 0
IsShared ones one others other target = ArePossible target.tags × May ones target one × May others target other

-- such a target that is an object, and no listing
abbrev pub IsSharedObject : List (List ℕ × AllowGrant) → Touch → List (List ℕ × AllowGrant) → Touch → Target → Type 0
IsSharedObject ones one others other target = IsShared ones one others other target × (target.object ≢ [])

-- there is such a target, among all pools, tags, namespaces and objects, and the listings
abbrev pub Share : List (List ℕ × AllowGrant) → Touch → List (List ℕ × AllowGrant) → Touch → Type 0
Share ones one others other = (target : Target) × IsShared ones one others other target

-- each grant of the ones with each of the others, in order
abbrev pub pairs : List (List ℕ × AllowGrant) → List (List ℕ × AllowGrant) → List ((List ℕ × AllowGrant) × (List ℕ × AllowGrant))
pairs ones others = flat_map (λ mine. map (λ theirs. (mine, theirs)) others) ones

-- the example has the paths of both grants, and is shared by these two alone; and it is an object, and no listing
abbrev pub IsExampleOf : Touch → Touch → (List ℕ × AllowGrant) × (List ℕ × AllowGrant) → Shared → Type 0
IsExampleOf one other pair shared =
    (shared.path ≡ pair.0.0) × (shared.other_path ≡ pair.1.0) × IsShared (pair.0 ∷ []) one (pair.1 ∷ []) other shared.target × (shared.target.object ≢ [])

abbrev pub PairShares : Touch → Touch → (List ℕ × AllowGrant) × (List ℕ × AllowGrant) → Type 0
PairShares one other pair = Share (pair.0 ∷ []) one (pair.1 ∷ []) other

-- each pair in turn has an example, or shares nothing by itself; there are no other examples
abbrev pub Answers : Touch → Touch → List ((List ℕ × AllowGrant) × (List ℕ × AllowGrant)) → List Shared → Type 0
Answers one other [] [] = Unit {0}
Answers one other [] (example ∷ examples) = ⊥
Answers one other (pair ∷ rest) [] = (¬ PairShares one other pair) × Answers one other rest []
Answers one other (pair ∷ rest) (example ∷ examples) =
    (IsExampleOf one other pair example × Answers one other rest examples) ⊎ ((¬ PairShares one other pair) × Answers one other rest (example ∷ examples))

-- ---- of pools that are given, each with exactly its tags

-- a target of this pool, at which the ones may touch as the one does, and the others as the other does
abbrev pub IsSharedIn : Pool → List (List ℕ × AllowGrant) → Touch → List (List ℕ × AllowGrant) → Touch → Target → Type 0
IsSharedIn pool ones one others other target = (target.pool ≡ pool.name) × (target.tags ≡ pool.tags) × May ones target one × May others target other

-- there is such a target: a namespace, and an object or a listing
abbrev pub ShareInOne : Pool → List (List ℕ × AllowGrant) → Touch → List (List ℕ × AllowGrant) → Touch → Type 0
ShareInOne pool ones one others other = (target : Target) × IsSharedIn pool ones one others other target

-- in some of the pools
abbrev pub ShareIn : List Pool → List (List ℕ × AllowGrant) → Touch → List (List ℕ × AllowGrant) → Touch → Type 0
ShareIn [] ones one others other = ⊥
ShareIn (pool ∷ pools) ones one others other = ShareInOne pool ones one others other ⊎ ShareIn pools ones one others other

-- a target that they share in this pool, which is an object, and no listing; or nothing where they share nothing there
abbrev pub IsExampleAt : Pool → List (List ℕ × AllowGrant) → Touch → List (List ℕ × AllowGrant) → Touch → Option Target → Type 0
IsExampleAt pool ones one others other (Some target) = IsSharedIn pool ones one others other target × (target.object ≢ [])
IsExampleAt pool ones one others other None = ¬ ShareInOne pool ones one others other

-- such a target of the first pool that has one, or nothing where they share nothing in any of the pools
abbrev pub IsExampleIn : List Pool → List (List ℕ × AllowGrant) → Touch → List (List ℕ × AllowGrant) → Touch → Option Target → Type 0
IsExampleIn [] ones one others other found = found ≡ None
IsExampleIn (pool ∷ pools) ones one others other found =
    ((target : Target) × (found ≡ Some target) × IsExampleAt pool ones one others other found)
    ⊎ (IsExampleAt pool ones one others other None × IsExampleIn pools ones one others other found)
