-- Statement: contracts of public calls use it.
-- Which grants of a list nobody needs, defined only by what is allowed. A grant here is one of the list: an allow, or a
-- use of a profile with all that it expands to (this project's profile).
use Rattle.std.specs.Prelude.{◌≡◌, ◌≢◌, ℕ, ◌+◌, ◌<◌, ◌⊎◌, List, [], ◌∷◌, ◌++◌, true, Some, length}
use Rattle.std.specs.List.{remove, slice_get, slice_range}
use Rattle.cap_grants.specs.declared.grant.Grant.{Grant}
use Rattle.grant_core.specs.Flat.{Flat, Table, flat}
use Rattle.request_types.specs.Target.{Target}
use Rattle.verdict_core.specs.Verdict.{grants_allow}
use Rattle.request_types.specs.declared.request.Needs.{Needs}
use Rattle.compare_core.specs.Widening.{CanBeAsked}
use Rattle.compare_core.specs.declared.registry.Registry.TheVariants.{Every}
use Rattle.lint_core.specs.declared.findings.Standing.{Standing}
use Rattle.lint_core.specs.declared.findings.Standing.TheVariants.{Needed, CoveredTogether, Covered}

-- every request that can be asked and that the other grants allow, these allow too, over every class registry
abbrev pub AllowsAll : Flat → Flat → Type 0
AllowsAll grants others = (target : Target) (needs : Needs) → CanBeAsked Every (record { target = target; needs = needs }) → grants_allow others target needs ≡ true → grants_allow grants target needs ≡ true

-- neither denies a request that the other allows
abbrev pub AllowSame : Flat → Flat → Type 0
AllowSame grants others = AllowsAll grants others × AllowsAll others grants

-- without the grant at this place the list allows the same
abbrev pub IsRedundant : Table → List Grant → ℕ → Type 0
IsRedundant table grants place = AllowSame (flat table (remove grants place)) (flat table grants)

-- the grant at a place, alone
abbrev pub alone : List Grant → ℕ → List Grant
alone grants place = slice_range grants place (place + 1)

-- another grant alone allows all that the grant at this place allows
abbrev pub Covers : Table → List Grant → ℕ → ℕ → Type 0
Covers table grants place other = (other ≢ place) × AllowsAll (flat table (alone grants other)) (flat table (alone grants place))

-- the number from 1 of the first grant that does
pub record IsFirstCover (table : Table) (grants : List Grant) (place number : ℕ) : Type 0 where
  pub other : ℕ
  pub is : number ≡ other + 1
  pub within : other < length grants
  pub covers : Covers table grants place other
  pub first : (earlier : ℕ) → earlier < other → ¬ Covers table grants place earlier

-- how the grant at a place stands to the others
abbrev pub IsStanding : Table → List Grant → ℕ → Standing → Type 0
IsStanding table grants place Needed = ¬ IsRedundant table grants place
IsStanding table grants place CoveredTogether = IsRedundant table grants place × ((other : ℕ) → other < length grants → ¬ Covers table grants place other)
IsStanding table grants place (Covered number) = IsRedundant table grants place × IsFirstCover table grants place number

-- how each grant stands to the others, in the list's order
pub record AreStandings (table : Table) (grants : List Grant) (standings : List Standing) : Type 0 where
  pub all : length standings ≡ length grants
  pub each : (place : ℕ) (standing : Standing) → slice_get standings place ≡ Some standing → IsStanding table grants place standing

-- some of the grants, in their order
abbrev pub IsSublist : List Grant → List Grant → Type 0
IsSublist [] grants = Unit {0}
IsSublist (kept ∷ others) [] = ⊥
IsSublist (kept ∷ others) (grant ∷ grants) = ((kept ≡ grant) × IsSublist others grants) ⊎ IsSublist (kept ∷ others) grants

-- Behind a front of a list, of its other grants these are kept: each goes just where those before it, with those kept behind it,
-- allow all that the list does. So of grants that could each go the first one stays.
abbrev pub AreKept : Table → List Grant → List Grant → List Grant → List Grant → Type 0
AreKept table list front [] kept = kept ≡ []
AreKept table list front (grant ∷ behind) kept =
    (others : List Grant) × AreKept table list (front ++ grant ∷ []) behind others
    × ((AllowsAll (flat table (front ++ others)) (flat table list) × (kept ≡ others)) ⊎ ((¬ AllowsAll (flat table (front ++ others)) (flat table list)) × (kept ≡ grant ∷ others)))

-- Some of the grants, which allow the same as all. Each of them is needed among them. Of grants that could each be
-- removed the first one stays.
pub record IsTidied (table : Table) (grants tidied : List Grant) : Type 0 where
  pub kept : IsSublist tidied grants
  pub same : AllowSame (flat table tidied) (flat table grants)
  pub needed : (place : ℕ) → place < length tidied → ¬ IsRedundant table tidied place
  pub first_stay : AreKept table grants [] grants tidied
