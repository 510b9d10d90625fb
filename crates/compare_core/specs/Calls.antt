-- Refinement: only contracts inside the crate use it.
-- The calls that are tried for a grant.
use Rattle.std.specs.Prelude.{◌≡◌, ℕ, List, [], ◌||◌, Bool, true, false, Option, None, Some}
use Rattle.std.specs.List.{All, Contains, slice_get}
use Rattle.cap_grants.specs.declared.grant.Access.{Access}
use Rattle.cap_grants.specs.declared.grant.Access.TheVariants as accesses
use Rattle.cap_grants.specs.declared.grant.AllowGrant.{AllowGrant}
use Rattle.verdict_core.specs.Verdict.{covers}
use Rattle.request_types.specs.declared.request.ClassCall.{ClassCall}
use Rattle.compare_core.specs.Fresh.{IsFresh, name_of}
use Rattle.compare_core.specs.Widening.{IsCallBy}
use Rattle.compare_core.specs.declared.field.Field.{Field}
use Rattle.compare_core.specs.declared.registry.Registry.{Registry}

-- the name itself, where there is one, or a fresh one
abbrev pub IsOwnOrFresh : Field → Option (List ℕ) → List (List ℕ × AllowGrant) → List ℕ → Type 0
IsOwnOrFresh field None old name = IsFresh field old [] name
IsOwnOrFresh field (Some own) old name = name ≡ own

-- the name that a grant has in a field, or a fresh one
abbrev pub IsNameOfCall : Field → AllowGrant → List (List ℕ × AllowGrant) → List ℕ → Type 0
IsNameOfCall field g old name = IsOwnOrFresh field (name_of field g) old name

-- whether an access covers some call that reads, writes or both
abbrev pub covers_some : Access → Bool
covers_some accesses.All = true
covers_some (accesses.Flags flags) = flags.class_read || flags.class_write
covers_some (accesses.Class class method) = true

-- the call by these names that an access covers, and as few others as can be
abbrev pub hardest : Access → List ℕ → List ℕ → ClassCall
hardest accesses.All class method = record { class = class; method = method; class_reads = true; class_writes = false; listed = false }
hardest (accesses.Flags flags) class method =
    record { class = class; method = method; class_reads = flags.class_read; class_writes = flags.class_write; listed = true }
hardest (accesses.Class named only) class method = record { class = class; method = method; class_reads = true; class_writes = false; listed = false }

-- A call stands for another one: the grant covers it, and each grant of old that covers it covers the other.
abbrev pub StandsFor : AllowGrant → List (List ℕ × AllowGrant) → ClassCall → ClassCall → Type 0
StandsFor g old call stand =
    (covers g.access stand ≡ true)
    × ((i : ℕ) (entry : List ℕ × AllowGrant) → slice_get old i ≡ Some entry → covers entry.1.access stand ≡ true → covers entry.1.access call ≡ true)

-- calls that may be asked, among which one stands for each that the grant covers
pub record AreCallsFor (registry : Registry) (g : AllowGrant) (old : List (List ℕ × AllowGrant)) (calls : List ClassCall) : Type 0 where
  pub asked : All (IsCallBy registry) calls
  pub whole : (call : ClassCall) → IsCallBy registry call → covers g.access call ≡ true → (stand : ClassCall) × StandsFor g old call stand × Contains calls stand
