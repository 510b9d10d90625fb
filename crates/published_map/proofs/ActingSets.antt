-- A pool that has a view at the present epoch has acting sets.
use Rattle.std.proofs.Common.{◌≡◌, ◌≢◌, ℕ, ◌-◌, List, take, Some, subst, arith}
use Rattle.std.specs.Prelude.{Option, None}
use Rattle.std.specs.Option.{option_map}
use Rattle.std.proofs.lemmas.List.{take_all}
use Rattle.place_core.specs.Placement.{acting_of, numbers_of}
use Rattle.map_core.specs.State.{History}
use Rattle.map_core.specs.Map.{epoch_of, map_of, map_after, view_at, view_of, pool_in}
use Rattle.map_core.specs.Intervals.{set_of, size_in}
use Rattle.map_core.specs.declared.pool.Pool.{Pool}
use Rattle.map_core.specs.declared.pool.PoolView.{PoolView}

has_both : {X Y Z U : Type 0} → (f : X → Y) (g : X → Z) (e : Z → U) (o : Option X) (y : Y) → option_map f o ≡ Some y → None ≢ option_map e (option_map g o)
has_both f g e None y is none = cc
has_both f g e (Some x) y is none = cc

pub has_set : (map : History) (pool : List ℕ) (group : ℕ) (view : PoolView) → view_at map pool (epoch_of map) ≡ Some view → None ≢ set_of (map_of map) pool group
unfolding view_at set_of size_in
has_set map pool group view is =
    let all : take (epoch_of map - 1) map.commands ≡ map.commands = take_all (epoch_of map - 1) map.commands (omega arith) in
    has_both (view_of (epoch_of map)) (λ (p : Pool). p.size) (acting_of pool group (numbers_of (map_of map).up)) (pool_in (map_of map).pools pool) view
    (subst (λ l. option_map (view_of (epoch_of map)) (pool_in (map_after map.daemons l).pools pool) ≡ Some view) all is)
