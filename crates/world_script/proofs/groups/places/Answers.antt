use Rattle.std.proofs.Common.{arith, ◌≡◌, ◌∙◌, All, take, ap, sym, subst}
use Rattle.std.specs.List.{flat_map}
use Rattle.std.proofs.lemmas.List.{take_all}
use Rattle.map_core.specs.Map.{map_of}
use Rattle.world_front.specs.Groups.{groups_of}
use Rattle.world_script.specs.Sweeping.{IsThere}
use Rattle.world_script.proofs.PlacesThere.{places_there}
use Rattle.world_script.proofs.groups.places.Goals as goal

pub returns-clause-there : goal.returns-clause-there
returns-clause-there c =
    let pools = c.pools-pool-items.result.now in
    let whole : take c.loop-pool.pool-index pools ≡ pools = take_all c.loop-pool.pool-index pools (omega arith) in
    let is : c.loop-pool.groups.items ≡ flat_map groups_of (map_of c.args.map.now).pools = c.loop-pool.invariant ∙ ap (flat_map groups_of) (whole ∙ c.pools-pool-items.ensures.value) in
    subst (All (IsThere c.args.map.now)) (sym is) (places_there c.args.map.now c.epoch-epoch.ensures.accepted)
