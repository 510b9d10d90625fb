-- Statement: contracts of public calls use it.
-- What a rule of a cluster demands of the rights of entities, said by what is allowed alone.
-- Source: this project's profile.
use Rattle.std.specs.Prelude.{◌≡◌, ◌⊎◌, List, [], ◌∷◌, Bool, true, false, Option, None, Some}
use Rattle.grant_core.specs.Flat.{Flat}
use Rattle.map_core.specs.PossibleTags.{ArePossible}
use Rattle.network_core.specs.Address.{IsAddress}
use Rattle.network_core.specs.declared.address.Address.{Address}
use Rattle.request_types.specs.Target.{Target}
use Rattle.request_types.specs.declared.request.Needs.{Needs}
use Rattle.rights_core.specs.Rights.{NetworkGrant, grants_at}
use Rattle.verdict_core.specs.Verdict.{is_allowed}
use Rattle.compare_core.specs.Widening.{AreNeeded}
use Rattle.compare_core.specs.declared.registry.Registry.TheVariants.{Every}
use Rattle.share_core.specs.Sharing.{writes_so}
use Rattle.share_core.specs.declared.pools.Pool.{Pool}
use Rattle.rules_core.specs.declared.demand.Demand.{Demand}
use Rattle.rules_core.specs.declared.demand.Demand.TheVariants.{Never, Always}

-- what grants allow: those of a ticket that does not end
abbrev pub allow : Flat → Target → Needs → Bool
allow grants target needs = is_allowed (record { grants = grants; until = None }) target needs 0

-- what an address is allowed
abbrev pub allows : List NetworkGrant → Address → Target → Needs → Bool
allows grants a target needs = allow (grants_at grants a) target needs

-- the target is of one of the pools, with exactly its tags
abbrev pub IsIn : List Pool → Target → Type 0
IsIn [] target = ⊥
IsIn (pool ∷ pools) target = ((target.pool ≡ pool.name) × (target.tags ≡ pool.tags)) ⊎ IsIn pools target

-- the target is of a pool that counts: one of those that are given, or else any, with tags that a pool can have
abbrev pub IsAt : Option (List Pool) → Target → Type 0
IsAt None target = ArePossible target.tags
IsAt (Some pools) target = IsIn pools target

-- A request that can be asked, by calls of any class registry. A listing has the empty name; it reads and does nothing else.
pub record CanAsk (pools : Option (List Pool)) (target : Target) (needs : Needs) : Type 0 where
  pub at : IsAt pools target
  pub needed : AreNeeded Every needs
  pub listing : target.object ≡ [] → (needs.writes ≡ false) × (needs.calls ≡ [])

-- ---- the three demands

-- never: no request that the region allows is allowed to the entity
abbrev pub NeverMay : Option (List Pool) → List NetworkGrant → List NetworkGrant → Type 0
NeverMay pools region entity =
    (a : Address) (target : Target) (needs : Needs) → IsAddress a → CanAsk pools target needs → allows region a target needs ≡ true → allows entity a target needs ≡ false

-- always: each request that the region allows is allowed to the entity
abbrev pub AlwaysMay : Option (List Pool) → List NetworkGrant → List NetworkGrant → Type 0
AlwaysMay pools region entity =
    (a : Address) (target : Target) (needs : Needs) → IsAddress a → CanAsk pools target needs → allows region a target needs ≡ true → allows entity a target needs ≡ true

-- where the one may write from some address, nothing is allowed to the other from any address
abbrev pub NeverWritesTo : Option (List Pool) → List NetworkGrant → List NetworkGrant → Type 0
NeverWritesTo pools writer other =
    (a b : Address) (target : Target) (write touch : Needs) → IsAddress a → IsAddress b → CanAsk pools target write → CanAsk pools target touch → writes_so write ≡ true
    → allows writer a target write ≡ true → allows other b target touch ≡ false

-- apart: neither writes what the other reads or writes
abbrev pub AreApart : Option (List Pool) → List NetworkGrant → List NetworkGrant → Type 0
AreApart pools one other = NeverWritesTo pools one other × NeverWritesTo pools other one

-- one of the first two
abbrev pub Obeys : Demand → Option (List Pool) → List NetworkGrant → List NetworkGrant → Type 0
Obeys Never pools region entity = NeverMay pools region entity
Obeys Always pools region entity = AlwaysMay pools region entity
