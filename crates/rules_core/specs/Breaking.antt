-- Refinement: only contracts inside the crate use it.
-- Requests that break a demand at one address.
use Rattle.std.specs.Prelude.{◌≡◌, ◌||◌, ℕ, List, Bool, true, false, Option, None, Some}
use Rattle.std.specs.List.{slice_get}
use Rattle.grant_core.specs.Flat.{Flat}
use Rattle.request_types.specs.Target.{Target}
use Rattle.request_types.specs.declared.request.Needs.{Needs}
use Rattle.network_core.specs.Address.{IsAddress}
use Rattle.network_core.specs.declared.address.Address.{Address}
use Rattle.rights_core.specs.Rights.{NetworkGrant, grants_at}
use Rattle.compare_core.specs.declared.comparing.Example.{Example}
use Rattle.compare_text.specs.declared.widening.AddressedExample.{AddressedExample}
use Rattle.compare_core.specs.Widening.{IsCallBy}
use Rattle.compare_core.specs.declared.registry.Registry.TheVariants.{Every}
use Rattle.share_core.specs.Sharing.{writes_so}
use Rattle.share_core.specs.declared.pools.Pool.{Pool}
use Rattle.share_core.specs.declared.touches.Touch.{Touch}
use Rattle.share_core.specs.declared.touches.Touch.TheVariants.{Read, Write, Call, AnyRead, AnyWrite}
use Rattle.rules_core.specs.Broken.{IsAllowed, IsBroken, IsGivenBy, breaking}
use Rattle.rules_core.specs.Demands.{CanAsk, allow}
use Rattle.rules_core.specs.Touches.{Meets, needs_of}
use Rattle.rules_core.specs.declared.apart.Crossing.{Crossing}
use Rattle.rules_core.specs.declared.apart.Pair.{Pair}
use Rattle.rules_core.specs.declared.demand.Demand.{Demand}
use Rattle.rules_core.specs.declared.demand.Demand.TheVariants.{Never}

-- the region allows the request, and the entity what the demand forbids
abbrev pub Breaks : Demand → Option (List Pool) → Flat → Flat → Target → Needs → Type 0
Breaks demand pools region entity target needs = CanAsk pools target needs × (allow region target needs ≡ true) × (allow entity target needs ≡ breaking demand)

-- no request breaks it, or this one does
abbrev pub IsBrokenBy : Demand → Option (List Pool) → Flat → Flat → Option Example → Type 0
IsBrokenBy demand pools region entity None = (target : Target) (needs : Needs) → ¬ Breaks demand pools region entity target needs
IsBrokenBy demand pools region entity (Some example) = IsBroken demand pools region entity example

-- a request from an address, or from every address
abbrev pub addressed : Option Example → Option Address → Option AddressedExample
addressed None from = None
addressed (Some example) from = Some (record { from = from; example = example })

-- one request and no more
abbrev pub IsPlain : Touch → Type 0
IsPlain Read = Unit {0}
IsPlain Write = Unit {0}
IsPlain (Call call) = IsCallBy Every call
IsPlain AnyRead = ⊥
IsPlain AnyWrite = ⊥

-- both allow none of the touches at a common target, or this request
abbrev pub IsBrokenAmong : Option (List Pool) → Flat → Flat → List Touch → Option Example → Type 0
IsBrokenAmong pools region entity touches None = (k : ℕ) (touch : Touch) → slice_get touches k ≡ Some touch → (target : Target) → ¬ Meets pools region touch entity touch target
IsBrokenAmong pools region entity touches (Some example) = IsBroken Never pools region entity example

-- the request that is the touch, by a grant that allows it
abbrev pub IsTouchShown : Flat → Touch → Target → Option Example → Type 0
IsTouchShown grants touch target None = ⊥
IsTouchShown grants touch target (Some example) =
    (example.target ≡ target) × (example.needs ≡ needs_of touch) × IsGivenBy grants example.path target (needs_of touch)

abbrev pub any_touch : Bool → Touch
any_touch true = AnyWrite
any_touch false = AnyRead

-- the ones allow a write and the others any request at a common target
pub record Crosses (pools : Option (List Pool)) (ones others : Flat) (target : Target) (write touch : Needs) : Type 0 where
  pub asked : CanAsk pools target write
  pub touched : CanAsk pools target touch
  pub writes : writes_so write ≡ true
  pub allowed : allow ones target write ≡ true
  pub also : allow others target touch ≡ true

-- two requests for one target, of which one writes
pub record IsPair (pools : Option (List Pool)) (ones others : Flat) (pair : Pair) : Type 0 where
  pub same : pair.other.target ≡ pair.one.target
  pub writes : (writes_so pair.one.needs || writes_so pair.other.needs) ≡ true
  pub mine : IsAllowed pools ones pair.one
  pub theirs : IsAllowed pools others pair.other

-- neither crosses the other, or these requests do
abbrev pub IsCrossedBy : Option (List Pool) → Flat → Flat → Option Pair → Type 0
IsCrossedBy pools ones others None =
    (target : Target) (write touch : Needs) → (¬ Crosses pools ones others target write touch) × (¬ Crosses pools others ones target write touch)
IsCrossedBy pools ones others (Some pair) = IsPair pools ones others pair

-- of each a request for one target, which writes or else reads; or there is no target at which both may do so
abbrev pub IsPairBy : Option (List Pool) → Flat → Bool → Flat → Bool → Option Pair → Type 0
IsPairBy pools ones one_writes others other_writes None =
    (target : Target) → ¬ Meets pools ones (any_touch one_writes) others (any_touch other_writes) target
IsPairBy pools ones one_writes others other_writes (Some pair) =
    (pair.other.target ≡ pair.one.target) × (one_writes ≡ true → writes_so pair.one.needs ≡ true) × (other_writes ≡ true → writes_so pair.other.needs ≡ true)
    × IsAllowed pools ones pair.one × IsAllowed pools others pair.other

-- two requests, each from its address
abbrev pub crossing_of : Pair → Option Address → Option Address → Crossing
crossing_of pair from other_from = record { one = record { from = from; example = pair.one }; other = record { from = other_from; example = pair.other } }

-- requests of grants that one address has and of rights at one of some addresses, or no such requests at any
abbrev pub IsCrossedWith : Option (List Pool) → Flat → Address → List NetworkGrant → List Address → Option Crossing → Type 0
IsCrossedWith pools here a other samples None = (k : ℕ) (b : Address) → slice_get samples k ≡ Some b → IsCrossedBy pools here (grants_at other b) None
IsCrossedWith pools here a other samples (Some crossing) =
    (b : Address) × (pair : Pair) × IsAddress b × IsPair pools here (grants_at other b) pair × (crossing ≡ crossing_of pair (Some a) (Some b))
