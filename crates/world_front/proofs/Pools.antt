-- A pool keeps the number of its groups for good.
use Rattle.std.proofs.Common.{◌≡◌, ◌∙◌, ℕ, List, ◌++◌, Some, sym, ap, subst}
use Rattle.std.specs.List.{find}
use Rattle.std.specs.Option.{option_map_or}
use Rattle.map_core.specs.State.{History}
use Rattle.map_core.specs.Map.{is_named, map_of, pool_in, view_at}
use Rattle.map_core.specs.Refusal.{groups_in}
use Rattle.map_core.specs.declared.pool.Pool.{Pool}
use Rattle.map_core.specs.declared.pool.PoolView.{PoolView}
use Rattle.map_core.specs.declared.command.MapCommand.{MapCommand}
use Rattle.map_core.proofs.Kept.{pools_stay, views_are_of_pools}
use Rattle.world_front.specs.Groups.{group_count}
pub use Rattle.world_front.specs.Stands.{InMap}

pub in_later : (history : History) (more : List MapCommand) (name : List ℕ) (groups : ℕ) → InMap history name groups → InMap (record history { commands = history.commands ++ more }) name groups
in_later history more name groups h = record { size = h.size; min_size = h.min_size; is = pools_stay history more name groups h.size h.min_size h.is }

-- a view is of a pool that the map has now
pub view_in : (history : History) (name : List ℕ) (epoch : ℕ) (v : PoolView) → view_at history name epoch ≡ Some v → InMap history v.pool v.pg_num
view_in history name epoch v is =
    let r = views_are_of_pools history name epoch v is in
    let P : List ℕ → Type 0 = λ n. InMap history n v.pg_num in
    subst P (sym r.0) (record { size = v.size; min_size = v.min_size; is = r.1 })

-- how many groups it has, by the map
pub counted : (history : History) (name : List ℕ) (groups : ℕ) → InMap history name groups → groups ≡ group_count history name
unfolding groups_in
counted history name groups h = sym (ap (λ o. option_map_or (λ (p : Pool). p.pg_num) o 0) h.is.found ∙ h.is.groups)

-- where it stands
pub found_in : (history : History) (name : List ℕ) (groups : ℕ) (h : InMap history name groups) → find (is_named name) (map_of history).pools ≡ Some h.is.pool
unfolding pool_in
found_in history name groups h = h.is.found
