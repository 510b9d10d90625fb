-- Refinement: only contracts inside the crate use it.
-- A request that a grant allows at a target by itself.
use Rattle.std.specs.Prelude.{◌≡◌, ℕ, List, [], ◌∷◌, Bool, true, false, Option, None, Some, codes, if◌then◌else◌}
use Rattle.std.specs.List.{slice_get}
use Rattle.std.specs.Option.{option_and_then}
use Rattle.cap_grants.specs.declared.grant.AllowGrant.{AllowGrant}
use Rattle.cap_grants.specs.declared.grant.Access.{Access}
use Rattle.cap_grants.specs.declared.grant.Access.TheVariants.{All, Flags, Class}
use Rattle.cap_grants.specs.declared.grant.Flags.{Flags as FourFlags}
use Rattle.grant_core.specs.Flat.{Flat}
use Rattle.request_types.specs.Target.{Target}
use Rattle.request_types.specs.declared.request.Needs.{Needs}
use Rattle.verdict_core.specs.Verdict.{can_read, can_write}
use Rattle.compare_core.specs.declared.comparing.Example.{Example}
use Rattle.share_core.specs.Sharing.{a_call}
use Rattle.rules_core.specs.Demands.{allow}
use Rattle.rules_core.specs.Touches.{call_that, or_a, plain_needs}

abbrev pub has_calls : FourFlags → Bool → Bool
has_calls flags true = flags.class_write
has_calls flags false = flags.class_read

abbrev pub has_plain : Access → Bool → Bool
has_plain access true = can_write access
has_plain access false = can_read access

abbrev pub call_by : Access → Bool → Option Needs
call_by All writes = None
call_by (Flags flags) writes = if has_calls flags writes then Some (a_call (call_that writes (codes "a") (codes "a"))) else None
call_by (Class class method) writes = Some (a_call (call_that writes class (or_a method)))

-- a request that writes, or else reads, and that the access gives
abbrev pub request_by : Access → Bool → Option Needs
request_by access writes = if has_plain access writes then Some (plain_needs writes) else call_by access writes

abbrev pub shown_at : List ℕ × AllowGrant → Target → Needs → Option Example
shown_at entry target needs = if allow (entry ∷ []) target needs then Some (record { path = entry.0; target = target; needs = needs }) else None

-- a request that the grant allows at the target by itself
abbrev pub request_with : List ℕ × AllowGrant → Target → Bool → Option Example
request_with entry target writes = option_and_then (shown_at entry target) (request_by entry.1.access writes)

-- that of some grant, or none allows one
abbrev pub IsRequestAt : Flat → Target → Bool → Option Example → Type 0
IsRequestAt grants target writes (Some example) = (i : ℕ) × (entry : List ℕ × AllowGrant) × (slice_get grants i ≡ Some entry) × (request_with entry target writes ≡ Some example)
IsRequestAt grants target writes None = (i : ℕ) (entry : List ℕ × AllowGrant) → slice_get grants i ≡ Some entry → request_with entry target writes ≡ None
