-- Statement: contracts of public calls use it.
-- Requests that break a demand.
use Rattle.std.specs.Prelude.{◌≡◌, ◌||◌, ℕ, List, [], ◌∷◌, Bool, true, false, Option, None, Some}
use Rattle.std.specs.List.{slice_get}
use Rattle.cap_grants.specs.declared.grant.AllowGrant.{AllowGrant}
use Rattle.grant_core.specs.Flat.{Flat}
use Rattle.network_core.specs.Address.{IsAddress}
use Rattle.network_core.specs.declared.address.Address.{Address}
use Rattle.request_types.specs.Target.{Target}
use Rattle.request_types.specs.declared.request.Needs.{Needs}
use Rattle.rights_core.specs.Rights.{NetworkGrant, grants_at}
use Rattle.compare_core.specs.declared.comparing.Example.{Example}
use Rattle.compare_text.specs.declared.widening.AddressedExample.{AddressedExample}
use Rattle.share_core.specs.Sharing.{writes_so}
use Rattle.share_core.specs.declared.pools.Pool.{Pool}
use Rattle.rules_core.specs.Demands.{AreApart, CanAsk, Obeys, allow}
use Rattle.rules_core.specs.declared.apart.Crossing.{Crossing}
use Rattle.rules_core.specs.declared.demand.Demand.{Demand}
use Rattle.rules_core.specs.declared.demand.Demand.TheVariants.{Never, Always}

-- one of the grants has this path, and allows the request by itself
abbrev pub IsGivenBy : Flat → List ℕ → Target → Needs → Type 0
IsGivenBy grants path target needs =
    (i : ℕ) × (entry : List ℕ × AllowGrant) × (slice_get grants i ≡ Some entry) × (path ≡ entry.0) × (allow (entry ∷ []) target needs ≡ true)

-- what the entity is allowed where the demand is broken
abbrev pub breaking : Demand → Bool
breaking Never = true
breaking Always = false

-- whose grant a broken demand shows: that of the entity which allows too much, or that of the region which the entity lacks
abbrev pub shown_grants : Demand → Flat → Flat → Flat
shown_grants Never region entity = entity
shown_grants Always region entity = region

-- a request that the region allows, and the entity against the demand, with the path of a grant
pub record IsBroken (demand : Demand) (pools : Option (List Pool)) (region entity : Flat) (example : Example) : Type 0 where
  pub asked : CanAsk pools example.target example.needs
  pub in_region : allow region example.target example.needs ≡ true
  pub breaks : allow entity example.target example.needs ≡ breaking demand
  pub given : IsGivenBy (shown_grants demand region entity) example.path example.target example.needs

-- from the address, or from every address where none is given
abbrev pub From : Option Address → (Address → Type 0) → Type 0
From (Some a) P = IsAddress a × P a
From None P = (a : Address) → IsAddress a → P a

-- from some address or every address, the request breaks the demand
abbrev pub IsBreach : Demand → Option (List Pool) → List NetworkGrant → List NetworkGrant → AddressedExample → Type 0
IsBreach demand pools region entity found = From found.from (λ a. IsBroken demand pools (grants_at region a) (grants_at entity a) found.example)

-- the entity obeys, or this request breaks the demand
abbrev pub IsBreachOrNone : Demand → Option (List Pool) → List NetworkGrant → List NetworkGrant → Option AddressedExample → Type 0
IsBreachOrNone demand pools region entity None = Obeys demand pools region entity
IsBreachOrNone demand pools region entity (Some found) = IsBreach demand pools region entity found

-- a request that grants allow, with the path of one that allows it by itself
pub record IsAllowed (pools : Option (List Pool)) (grants : Flat) (example : Example) : Type 0 where
  pub asked : CanAsk pools example.target example.needs
  pub allowed : allow grants example.target example.needs ≡ true
  pub given : IsGivenBy grants example.path example.target example.needs

-- two requests for one target, one of each, of which one writes
pub record IsCrossing (pools : Option (List Pool)) (one other : List NetworkGrant) (crossing : Crossing) : Type 0 where
  pub same : crossing.other.example.target ≡ crossing.one.example.target
  pub writes : (writes_so crossing.one.example.needs || writes_so crossing.other.example.needs) ≡ true
  pub mine : From crossing.one.from (λ a. IsAllowed pools (grants_at one a) crossing.one.example)
  pub theirs : From crossing.other.from (λ a. IsAllowed pools (grants_at other a) crossing.other.example)

-- they are apart, or these requests show that they are not
abbrev pub IsCrossingOrNone : Option (List Pool) → List NetworkGrant → List NetworkGrant → Option Crossing → Type 0
IsCrossingOrNone pools one other None = AreApart pools one other
IsCrossingOrNone pools one other (Some crossing) = IsCrossing pools one other crossing
