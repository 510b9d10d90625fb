-- Statement: contracts of public calls use it.
-- Which grants of a text nobody needs at any address. A grant of the text has a number, counted from 1. The grants that
-- it expands to have paths that begin with the number (this project's profile).
use Rattle.std.specs.Prelude.{◌≡◌, ◌≢◌, ◌≤◌, ◌<◌, ◌+◌, ◌==◌, ◌&&◌, ℕ, Bool, true, false, not, List, [], ◌∷◌, Option, None, Some, length, filter, is_some}
use Rattle.std.specs.List.{list_any, slice_get}
use Rattle.cap_grants.specs.declared.grant.AllowGrant.{AllowGrant}
use Rattle.grant_core.specs.Flat.{Flat}
use Rattle.network_core.specs.Address.{IsAddress}
use Rattle.network_core.specs.declared.address.Address.{Address}
use Rattle.rights_core.specs.Rights.{NetworkGrant, Rights, grants_at, is_live}
use Rattle.share_core.specs.Pools.{is_for}
use Rattle.share_core.specs.declared.pools.Pool.{Pool}
use Rattle.lint_core.specs.Lint.{AllowSame, AllowsAll}
use Rattle.lint_core.specs.declared.findings.Standing.{Standing}
use Rattle.lint_core.specs.declared.findings.Standing.TheVariants.{Needed, CoveredTogether, Covered}
use Rattle.lint_core.specs.declared.rights_lint.GrantLint.{GrantLint}
use Rattle.lint_core.specs.declared.rights_lint.Reach.{Reach}
use Rattle.lint_core.specs.declared.rights_lint.Reach.TheVariants.{Bounded, EveryPoolByPrefix, EveryPool}

abbrev pub begins_with : ℕ → List ℕ → Bool
begins_with number [] = false
begins_with number (first ∷ others) = first == number

-- what the grant of a number expands to, or everything else
abbrev pub is_part : Bool → ℕ → List ℕ × AllowGrant → Bool
is_part true number entry = begins_with number entry.0
is_part false number entry = not (begins_with number entry.0)

abbrev pub part : Bool → ℕ → Flat → Flat
part own number grants = filter (is_part own number) grants

-- at every address the others allow the same as all
abbrev pub IsRedundantIn : Rights → ℕ → Type 0
IsRedundantIn rights number = (a : Address) → IsAddress a → AllowSame (part false number (grants_at rights.grants a)) (grants_at rights.grants a)

-- another grant alone allows at every address all that the grant of this number allows there
abbrev pub CoversIn : Rights → ℕ → ℕ → Type 0
CoversIn rights number other =
    (other ≢ number) × ((a : Address) → IsAddress a → AllowsAll (part true other (grants_at rights.grants a)) (part true number (grants_at rights.grants a)))

-- no grant of a place below this one covers it
abbrev pub NoneCovers : Rights → ℕ → ℕ → Type 0
NoneCovers rights number places = (place : ℕ) → place < places → ¬ CoversIn rights number (place + 1)

-- the first grant that does
pub record IsFirstCoverIn (rights : Rights) (count number found : ℕ) : Type 0 where
  pub place : ℕ
  pub is : found ≡ place + 1
  pub within : place < count
  pub covers : CoversIn rights number (place + 1)
  pub first : NoneCovers rights number place

-- how the grant of a number stands to the others, where the text has `count` grants
abbrev pub IsStandingIn : Rights → ℕ → ℕ → Standing → Type 0
IsStandingIn rights count number Needed = ¬ IsRedundantIn rights number
IsStandingIn rights count number CoveredTogether = IsRedundantIn rights number × NoneCovers rights number count
IsStandingIn rights count number (Covered found) = IsRedundantIn rights number × IsFirstCoverIn rights count number found

-- whether the grant of a number expands to some grant that passes a test
abbrev pub some_of : (NetworkGrant → Bool) → ℕ → List NetworkGrant → Bool
some_of test number entries = list_any (λ entry. begins_with number entry.path && test entry) entries

-- it expands to no grant: it uses a profile of an unknown name
abbrev pub is_nothing : Rights → ℕ → Bool
is_nothing rights number = not (some_of (λ entry. true) number rights.grants)

-- its network matches no address
abbrev pub is_dead : Rights → ℕ → Bool
is_dead rights number = some_of (λ entry. not (is_live entry.network)) number rights.grants

-- a grant names neither a pool nor a tag
abbrev pub is_unbounded : AllowGrant → Bool
is_unbounded g = not (is_some g.pool) && not (is_some g.tag)

abbrev pub reach_by : Bool → Bool → Reach
reach_by true by_prefix = EveryPool
reach_by false true = EveryPoolByPrefix
reach_by false false = Bounded

-- how far it reaches: to objects of every pool, to those with a prefix of every pool, or to certain pools alone
abbrev pub reach_of : Rights → ℕ → Reach
reach_of rights number =
    reach_by (some_of (λ entry. is_unbounded entry.grant && not (is_some entry.grant.prefix)) number rights.grants) (some_of (λ entry. is_unbounded entry.grant) number rights.grants)

-- pools are given, and none of what it expands to matches one of them
abbrev pub is_without_pool : Option (List Pool) → Rights → ℕ → Bool
is_without_pool None rights number = false
is_without_pool (Some pools) rights number = not (some_of (λ entry. list_any (is_for entry.grant) pools) number rights.grants)

-- what is found of the grant of a number
pub record IsLintIn (pools : Option (List Pool)) (rights : Rights) (count number : ℕ) (found : GrantLint) : Type 0 where
  pub standing : IsStandingIn rights count number found.standing
  pub nothing : found.nothing ≡ is_nothing rights number
  pub dead : found.dead ≡ is_dead rights number
  pub reach : found.reach ≡ reach_of rights number
  pub without_pool : found.without_pool ≡ is_without_pool pools rights number

-- what is found of each of `count` grants, in order
pub record AreLintsIn (pools : Option (List Pool)) (rights : Rights) (count : ℕ) (all : List GrantLint) : Type 0 where
  pub all_of_them : length all ≡ count
  pub each : (place : ℕ) (found : GrantLint) → slice_get all place ≡ Some found → IsLintIn pools rights count (place + 1) found
