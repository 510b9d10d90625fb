-- Statement: contracts of public calls use it.
-- What some rights allow from an address that other rights deny there.
-- Source: this project. Which requests can be asked is that of tickets.
use Rattle.std.specs.Prelude.{◌≡◌, ◌||◌, ℕ, List, [], ◌∷◌, Bool, true, false, Option, None, Some, ◌⊎◌}
use Rattle.network_core.specs.declared.address.Address.{Address}
use Rattle.network_core.specs.Address.{IsAddress}
use Rattle.rights_core.specs.Rights.{NetworkGrant, grants_at, has_networks}
use Rattle.compare_core.specs.Widening.{IsGainedBy, Request, request_of}
use Rattle.compare_core.specs.declared.registry.Registry.{Registry}
use Rattle.compare_text.specs.declared.widening.AddressedExample.{AddressedExample}

-- a request from the address, which new allows there and old denies there
abbrev pub IsGainedFrom : Registry → List NetworkGrant → List NetworkGrant → Address → Request → Type 0
IsGainedFrom registry old new a request = IsAddress a × IsGainedBy registry (grants_at old a) (grants_at new a) request

-- some request from some address is gained
abbrev pub WidensFrom : Registry → List NetworkGrant → List NetworkGrant → Type 0
WidensFrom registry old new = (a : Address) × (request : Request) × IsGainedFrom registry old new a request

-- gained from the address, or from every address where none is given
abbrev pub IsGainedAt : Registry → List NetworkGrant → List NetworkGrant → Option Address → Request → Type 0
IsGainedAt registry old new (Some a) request = IsGainedFrom registry old new a request
IsGainedAt registry old new None request = (a : Address) → IsAddress a → IsGainedFrom registry old new a request

abbrev pub is_given : Option Address → Bool
is_given None = false
is_given (Some a) = true

-- An example has the grant's path, and is gained by this grant alone. It has an address exactly where one is asked for.
pub record IsExampleFrom (registry : Registry) (addressed : Bool) (old : List NetworkGrant) (entry : NetworkGrant) (found : AddressedExample) : Type 0 where
  pub path : found.example.path ≡ entry.path
  pub given : is_given found.from ≡ addressed
  pub gained : IsGainedAt registry old (entry ∷ []) found.from (request_of found.example)

-- each grant of new in turn has an example, or by itself widens nothing from any address; there are no other examples
abbrev pub AreExamples : Registry → Bool → List NetworkGrant → List NetworkGrant → List AddressedExample → Type 0
AreExamples registry addressed old [] [] = Unit {0}
AreExamples registry addressed old [] (found ∷ examples) = ⊥
AreExamples registry addressed old (entry ∷ new) [] = (¬ WidensFrom registry old (entry ∷ [])) × AreExamples registry addressed old new []
AreExamples registry addressed old (entry ∷ new) (found ∷ examples) =
    (IsExampleFrom registry addressed old entry found × AreExamples registry addressed old new examples)
    ⊎ ((¬ WidensFrom registry old (entry ∷ [])) × AreExamples registry addressed old new (found ∷ examples))

-- examples have addresses exactly where some grant of either side has a network
abbrev pub AnswersFrom : Registry → List NetworkGrant → List NetworkGrant → List AddressedExample → Type 0
AnswersFrom registry old new examples = AreExamples registry (has_networks old || has_networks new) old new examples
