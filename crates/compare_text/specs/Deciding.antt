-- Refinement: only contracts inside the crate use it.
-- Addresses that decide what grants allow by themselves over all addresses.
use Rattle.std.specs.Prelude.{◌≡◌, ◌||◌, List, [], ◌∷◌, ◌++◌, Bool, true, false, All}
use Rattle.std.specs.List.{Contains}
use Rattle.network_core.specs.declared.address.Address.{Address}
use Rattle.network_core.specs.Address.{IsAddress}
use Rattle.rights_core.specs.Rights.{NetworkGrant, grants_at, has_networks, is_for}
use Rattle.compare_core.specs.declared.registry.Registry.{Registry}
use Rattle.compare_text.specs.Addresses.{AreExamples}
use Rattle.compare_text.specs.declared.widening.AddressedExample.{AddressedExample}

-- each grant is for both addresses or for neither
abbrev pub AreForBoth : List NetworkGrant → Address → Address → Type 0
AreForBoth [] a b = Unit {0}
AreForBoth (entry ∷ entries) a b = (is_for entry.network a ≡ is_for entry.network b) × AreForBoth entries a b

-- The samples are addresses, and for each address there is a sample at which old has the same grants and new's are for both.
-- Where no address is asked for, no grant has a network.
pub record DecideFor (addressed : Bool) (old new : List NetworkGrant) (samples : List Address) : Type 0 where
  pub are_addresses : All IsAddress samples
  pub stand : (a : Address) → IsAddress a → (sample : Address) × Contains samples sample × (grants_at old sample ≡ grants_at old a) × AreForBoth new sample a
  pub bare : addressed ≡ false → (has_networks old || has_networks new) ≡ false

-- whatever the examples of the rest are, they complete those so far
abbrev pub AreBefore : Registry → Bool → List NetworkGrant → List NetworkGrant → List NetworkGrant → List AddressedExample → Type 0
AreBefore registry addressed old new rest examples =
    (others : List AddressedExample) → AreExamples registry addressed old rest others → AreExamples registry addressed old new (examples ++ others)
