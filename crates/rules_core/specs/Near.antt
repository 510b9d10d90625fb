-- Refinement: only contracts inside the crate use it.
-- Which entities of a cluster have to be checked, found by the pools that they name.
use Rattle.std.specs.Prelude.{ℕ, ◌≡◌, ◌⊎◌, ◌<◌, List, length, Option, None, Some}
use Rattle.std.specs.List.{All, Contains, slice_get}
use Rattle.std.specs.List.Sorted.{IsStrictlyIncreasing}
use Rattle.grant_core.specs.Flat.{Flat}
use Rattle.network_core.specs.declared.address.Address.{Address}
use Rattle.rights_core.specs.Rights.{NetworkGrant, grants_at}
use Rattle.share_core.specs.Near.{AreApart}
use Rattle.share_core.specs.declared.pools.Pool.{Pool}
use Rattle.rules_core.specs.Rules.{Has, IsFinding}
use Rattle.rules_core.specs.Subject.{Subject}
use Rattle.rules_core.specs.declared.rule.Rule.{Rule}

-- the grants that an entity has at every address
abbrev pub HasGrants : Flat → Subject → Type 0
HasGrants grants subject = Has (λ all. (a : Address) → grants_at all a ≡ grants) subject

-- the entity at a place is one of the others, or has one of the tickets
abbrev pub IsIndexed : List Flat → List ℕ → List ℕ → ℕ → Subject → Type 0
IsIndexed tickets places others place subject =
    Contains others place ⊎ ((index : ℕ) × (grants : Flat) × (slice_get places index ≡ Some place) × (slice_get tickets index ≡ Some grants) × HasGrants grants subject)

-- tickets with the places of their entities, and the places of the entities without one: of the first `count` entities
pub record AreIndexed (subjects : List Subject) (count : ℕ) (tickets : List Flat) (places others : List ℕ) : Type 0 where
  pub counted : length places ≡ length tickets
  pub placed : All (λ place. place < length subjects) places
  pub besides : All (λ place. place < length subjects) others
  pub each : (place : ℕ) (subject : Subject) → slice_get subjects place ≡ Some subject → place < count → IsIndexed tickets places others place subject

-- from all addresses, the two share nothing
abbrev pub AreFar : List NetworkGrant → List NetworkGrant → Type 0
AreFar one other = (a b : Address) → AreApart (grants_at one a) (grants_at other b)

-- places of entities, each below the next
pub record ArePlaces (subjects : List Subject) (places : List ℕ) : Type 0 where
  pub rising : IsStrictlyIncreasing places
  pub inside : All (λ place. place < length subjects) places

-- the entities at other places have this
abbrev pub OthersHave : (Subject → Type 0) → List Subject → List ℕ → Type 0
OthersHave P subjects places = (place : ℕ) (subject : Subject) → slice_get subjects place ≡ Some subject → Contains places place ⊎ P subject

-- with the entities at other places the grants share nothing
abbrev pub AreNear : List NetworkGrant → List Subject → List ℕ → Type 0
AreNear grants subjects places = ArePlaces subjects places × OthersHave (Has (AreFar grants)) subjects places

-- nothing is found of the entities at other places
abbrev pub AreEnough : Option (List Pool) → Rule → List Subject → List ℕ → Type 0
AreEnough pools rule subjects places = ArePlaces subjects places × OthersHave (λ subject. IsFinding pools rule subjects subject None) subjects places
