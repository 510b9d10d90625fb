-- Statement: contracts of public calls use it.
-- What one ticket allows that another denies, said by what is allowed alone.
use Rattle.std.specs.Prelude.{◌≡◌, ℕ, List, [], ◌∷◌, ◌||◌, ◌==◌, ◌≤◌, not, length, Bool, true, false, ◌⊎◌}
use Rattle.std.specs.List.{All}
use Rattle.cap_grants.specs.declared.grant.AllowGrant.{AllowGrant}
use Rattle.map_core.specs.PossibleTags.{ArePossible}
use Rattle.request_types.specs.Target.{Target}
use Rattle.verdict_core.specs.Verdict.{grants_allow}
use Rattle.request_types.specs.declared.request.Needs.{Needs}
use Rattle.request_types.specs.declared.request.ClassCall.{ClassCall}
use Rattle.object_core.specs.Needs.{IsRegistered}
use Rattle.compare_core.specs.declared.comparing.Example.{Example}
use Rattle.compare_core.specs.declared.registry.Registry.{Registry}
use Rattle.compare_core.specs.declared.registry.Registry.TheVariants.{Every, Own}

pub record Request : Type 0 where
  pub target : Target
  pub needs : Needs

-- A call that a request may have. Over every registry that is a call of any class and any method, on the default list or
-- not, which reads, writes or both; over this project's own it is one of that registry's.
abbrev pub IsCallBy : Registry → ClassCall → Type 0
IsCallBy Every call = (call.class_reads || call.class_writes) ≡ true
IsCallBy Own call = IsRegistered call

-- needs ask to read or to write, or have a call
abbrev pub asks_something : Needs → Bool
asks_something needs = needs.reads || (needs.writes || not (length needs.calls == 0))

-- needs that a request may have, by the calls in it
abbrev pub IsAskedBy : Registry → Needs → Type 0
IsAskedBy registry needs = All (IsCallBy registry) needs.calls

-- Needs of a request: by such calls, of which it has at most 16 as it has at most 16 operations, and for something.
pub record AreNeeded (registry : Registry) (needs : Needs) : Type 0 where
  pub calls : IsAskedBy registry needs
  pub few : length needs.calls ≤ 16
  pub something : asks_something needs ≡ true

-- A request that can be asked: its pool can have such tags; and a listing, which has the empty name, reads and does nothing else.
pub record CanBeAsked (registry : Registry) (request : Request) : Type 0 where
  pub tags : ArePossible request.target.tags
  pub needs : AreNeeded registry request.needs
  pub listing : request.target.object ≡ [] → (request.needs.writes ≡ false) × (request.needs.calls ≡ [])

-- a request that can be asked, which new allows and old denies
abbrev pub IsGainedBy : Registry → List (List ℕ × AllowGrant) → List (List ℕ × AllowGrant) → Request → Type 0
IsGainedBy registry old new request = CanBeAsked registry request × (grants_allow new request.target request.needs ≡ true) × (grants_allow old request.target request.needs ≡ false)

-- some request, of all that can be asked, is gained
abbrev pub WidensBy : Registry → List (List ℕ × AllowGrant) → List (List ℕ × AllowGrant) → Type 0
WidensBy registry old new = (request : Request) × IsGainedBy registry old new request

abbrev pub request_of : Example → Request
request_of example = record { target = example.target; needs = example.needs }

-- the example has the grant's path, and is gained by this grant alone
abbrev pub IsExampleBy : Registry → List (List ℕ × AllowGrant) → List ℕ × AllowGrant → Example → Type 0
IsExampleBy registry old entry example = (example.path ≡ entry.0) × IsGainedBy registry old (entry ∷ []) (request_of example)

-- each grant of new in turn has an example, or by itself widens nothing; there are no other examples
abbrev pub AnswersBy : Registry → List (List ℕ × AllowGrant) → List (List ℕ × AllowGrant) → List Example → Type 0
AnswersBy registry old [] [] = Unit {0}
AnswersBy registry old [] (example ∷ examples) = ⊥
AnswersBy registry old (entry ∷ new) [] = (¬ WidensBy registry old (entry ∷ [])) × AnswersBy registry old new []
AnswersBy registry old (entry ∷ new) (example ∷ examples) =
    (IsExampleBy registry old entry example × AnswersBy registry old new examples)
    ⊎ ((¬ WidensBy registry old (entry ∷ [])) × AnswersBy registry old new (example ∷ examples))

-- The same over every registry.

-- a request, any of whose calls reads, writes or both, which new allows and old denies
abbrev pub IsGained : List (List ℕ × AllowGrant) → List (List ℕ × AllowGrant) → Request → Type 0
IsGained old new request = IsGainedBy Every old new request

-- some request is gained
abbrev pub Widens : List (List ℕ × AllowGrant) → List (List ℕ × AllowGrant) → Type 0
Widens old new = WidensBy Every old new

-- each grant of new in turn has an example, or by itself widens nothing
abbrev pub Answers : List (List ℕ × AllowGrant) → List (List ℕ × AllowGrant) → List Example → Type 0
Answers old new examples = AnswersBy Every old new examples
