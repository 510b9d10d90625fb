use Rattle.std.proofs.Common.{◌≡◌, ◌∙◌, ◌≤◌, length, ap, sym, subst}
use Rattle.map_core.specs.Map.{map_of}
use Rattle.map_core.proofs.Kept.{pools_are_few}
use Rattle.entry_core.specs.Locality.{group_for}
use Rattle.world_core.specs.Moves.{IsAt}
use Rattle.world_front.specs.Groups.{place_in}
use Rattle.world_core.proofs.Answering.{place_of_request}
use Rattle.world_core.proofs.group_places.place_of_request.Goals as goal

pub place_for-requires-clause-few : goal.place_for-requires-clause-few
place_for-requires-clause-few c = subst (λ l. length l ≤ 32) (sym c.pools-pools.ensures.value) (pools_are_few c.args.map.now c.epoch-epoch.ensures.accepted)

pub returns : goal.returns
returns c = λ groups are.
    let e : place_in (map_of c.args.map.now).pools (group_for c.args.request.now) ≡ c.place_for.result =
    ap (λ l. place_in l (group_for c.args.request.now)) (sym c.pools-pools.ensures.value) ∙ sym c.place_for.ensures in
    subst (IsAt groups (group_for c.args.request.now)) e (place_of_request c.args.map.now c.args.request.now c.requires groups are)
