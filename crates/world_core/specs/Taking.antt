-- Refinement: only contracts inside the crate use it.
-- Requests that groups take together.
use Rattle.std.specs.Prelude.{◌≡◌, ℕ, List, [], ◌∷◌, Bool, false, None, Some, slice_get, slice_set, map}
use Rattle.std.specs.Option.{option_map_or}
use Rattle.map_core.specs.declared.pool.Pool.{Pool}
use Rattle.entry_core.specs.Locality.{group_for}
use Rattle.store_core.specs.Request.{Sealed}
use Rattle.group_model.specs.Group.{Group, Submit, group_step, has_all_requests, refusal_of}
use Rattle.group_model.specs.Reached.{IsReached}
use Rattle.world_front.specs.Groups.{place_in}

-- the group at a place took a request
pub record Takes (groups : List Group) (place : ℕ) (s : Sealed) (groups_then : List Group) : Type 0 where
  pub group : Group
  pub there : slice_get groups place ≡ Some group
  pub reached : IsReached group
  pub taken : refusal_of group (Submit s) ≡ None
  pub are : groups_then ≡ slice_set groups place (group_step group (Submit s))

-- each group at these places took its request, in order
abbrev pub TakesAll : List Group → List ℕ → List Sealed → List Group → Type 0
TakesAll groups [] [] groups_then = groups_then ≡ groups
TakesAll groups [] (s ∷ ss) groups_then = ⊥
TakesAll groups (p ∷ ps) [] groups_then = ⊥
TakesAll groups (p ∷ ps) (s ∷ ss) groups_then = (between : List Group) × Takes groups p s between × TakesAll between ps ss groups_then

-- where the groups of requests stand
abbrev pub places_for : List Pool → List Sealed → List ℕ
places_for pools requests = map (λ s. place_in pools (group_for s)) requests

-- whether the group at a place takes no more requests
abbrev pub is_full_at : List Group → ℕ → Bool
is_full_at groups place = option_map_or has_all_requests (slice_get groups place) false
