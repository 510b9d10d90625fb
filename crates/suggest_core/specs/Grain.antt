-- Statement: contracts of public calls use it.
-- The grain of a suggestion: what was needed in each region, and the texts that it chooses from (this project's profile).
use Rattle.std.specs.Prelude.{◌≡◌, ℕ, List, Bool, true, false, not, ◌&&◌, ◌||◌, if◌then◌else◌}
use Rattle.std.specs.List.{list_any, Contains}
use Rattle.cap_grants.specs.declared.grant.AllowGrant.{AllowGrant}
use Rattle.cap_grants.specs.declared.grant.Access.{Access}
use Rattle.cap_grants.specs.declared.grant.Access.TheVariants.{All, Flags, Class}
use Rattle.request_types.specs.declared.request.Needs.{Needs}
use Rattle.suggest_core.specs.Region.{grant_for, is_in, region_of}
use Rattle.suggest_core.specs.declared.grain.Grain.{Grain}
use Rattle.suggest_core.specs.declared.region.Region.{Region}
use Rattle.suggest_core.specs.declared.seen.Seen.{Seen}

-- a request reads or writes by itself, beside what its calls do
abbrev pub moves : Needs → Bool
moves needs = needs.reads || needs.writes

-- some request seen in the region reads or writes, and passes the test
abbrev pub some_moving : List Seen → Region → (Needs → Bool) → Bool
some_moving seen region test = list_any (λ request. (is_in region request.target && moves request.needs) && test request.needs) seen

-- Flags for all requests seen in the region that read or write, with their calls. Where one calls a method of a class that is not listed, only * will do.
abbrev pub access_for : List Seen → Region → Access
access_for seen region =
    if some_moving seen region (λ needs. list_any (λ call. not call.listed) needs.calls) then All
    else Flags (record {
      read = some_moving seen region (λ needs. needs.reads);
      write = some_moving seen region (λ needs. needs.writes);
      class_read = some_moving seen region (λ needs. list_any (λ call. call.class_reads) needs.calls);
      class_write = some_moving seen region (λ needs. list_any (λ call. call.class_writes) needs.calls);
    })

abbrev pub is_class : Access → Bool
is_class (Class class method) = true
is_class (Flags flags) = false
is_class All = false

-- A text of the grain: each grant is for the region of a request seen, and grants of flags or * for one region are one grant, beside which there may be class grants.
pub record IsOfGrain (grain : Grain) (seen : List Seen) (text : List (List ℕ × AllowGrant)) : Type 0 where
  pub regions : (entry : List ℕ × AllowGrant) → Contains text entry → (request : Seen) × Contains seen request × (entry.1 ≡ grant_for (region_of grain seen request.target) entry.1.access)
  pub one : (entry other : List ℕ × AllowGrant) → Contains text entry → Contains text other → is_class entry.1.access ≡ false → is_class other.1.access ≡ false
      → entry.1.pool ≡ other.1.pool → entry.1.namespace ≡ other.1.namespace → entry.1.access ≡ other.1.access
