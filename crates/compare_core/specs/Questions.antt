-- Refinement: only contracts inside the crate use it.
-- The needs that are tried at a target: at most one call.
use Rattle.std.specs.Prelude.{◌≡◌, List, [], ◌∷◌, ◌++◌, map, Bool, true, false, not, ◌&&◌, ◌||◌, Option, None, Some, ℕ}
use Rattle.std.specs.List.{list_any, All, Contains}
use Rattle.cap_grants.specs.declared.grant.AllowGrant.{AllowGrant}
use Rattle.request_types.specs.Target.{Target}
use Rattle.request_types.specs.declared.request.Needs.{Needs}
use Rattle.request_types.specs.declared.request.ClassCall.{ClassCall}
use Rattle.verdict_core.specs.Verdict.{covers, grants_allow}
use Rattle.compare_core.specs.Calls.{StandsFor}
use Rattle.compare_core.specs.Widening.{AreNeeded, IsCallBy}
use Rattle.compare_core.specs.declared.comparing.Example.{Example}
use Rattle.compare_core.specs.declared.registry.Registry.{Registry}

abbrev pub asks : Bool → Bool → List ClassCall → Needs
asks reads writes calls = record { reads = reads; writes = writes; calls = calls }

abbrev pub asks_one : Bool → Bool → ClassCall → Needs
asks_one reads writes call = asks reads writes (call ∷ [])

-- needs with at most one of these calls: the plainest first
abbrev pub questions : List ClassCall → List Needs
questions calls =
    asks true false [] ∷ asks false true [] ∷ asks true true []
    ∷ (map (asks_one false false) calls ++ (map (asks_one true false) calls ++ (map (asks_one false true) calls ++ map (asks_one true true) calls)))

-- Needs that may all be asked, among which are all those without a call that ask for something, and for each call that the
-- grant covers those with one that stands for it.
pub record AreEnough (registry : Registry) (g : AllowGrant) (old : List (List ℕ × AllowGrant)) (questions : List Needs) : Type 0 where
  pub asked : All (AreNeeded registry) questions
  pub bare : (reads writes : Bool) → (reads || writes) ≡ true → Contains questions (asks reads writes [])
  pub whole : (call : ClassCall) → IsCallBy registry call → covers g.access call ≡ true
      → (stand : ClassCall) × StandsFor g old call stand × ((reads writes : Bool) → Contains questions (asks_one reads writes stand))

-- new allows the needs at the target, and old denies them
abbrev pub shows : List (List ℕ × AllowGrant) → List (List ℕ × AllowGrant) → Target → Needs → Bool
shows old new target needs = grants_allow new target needs && not (grants_allow old target needs)

-- the listing of the target's namespace
abbrev pub listing_at : Target → Target
listing_at target = record target { object = [] }

-- none of the needs shows that new allows more at the target, or these do
abbrev pub IsShownBy : List (List ℕ × AllowGrant) → List (List ℕ × AllowGrant) → Target → List Needs → Option Needs → Type 0
IsShownBy old new target questions None = list_any (shows old new target) questions ≡ false
IsShownBy old new target questions (Some needs) = Contains questions needs × (shows old new target needs ≡ true)

-- the listing at the target does not show it, or is the example
abbrev pub IsListed : List (List ℕ × AllowGrant) → List (List ℕ × AllowGrant) → List ℕ → Target → Option Example → Type 0
IsListed old new path target None = shows old new (listing_at target) (asks true false []) ≡ false
IsListed old new path target (Some example) =
    (example ≡ record { path = path; target = listing_at target; needs = asks true false [] }) × (shows old new (listing_at target) (asks true false []) ≡ true)
