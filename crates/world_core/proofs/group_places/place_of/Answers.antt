use Rattle.std.proofs.Common.{◌≡◌, ◌∙◌, ◌+◌, ◌<◌, ◌≤◌, length, ap, sym, subst}
use Rattle.std.specs.Option.{option_map}
use Rattle.map_core.specs.Map.{map_of}
use Rattle.map_core.specs.Refusal.{groups_in}
use Rattle.map_core.proofs.Kept.{pools_are_few}
use Rattle.world_events.specs.declared.fault.WorldFault.TheVariants.{Map as OfMap}
use Rattle.world_core.specs.Moves.{IsAt}
use Rattle.world_front.specs.Groups.{place_in}
use Rattle.world_core.proofs.PlaceIn.{has_place}
use Rattle.world_core.proofs.PlacesNamed.{none_missing, some_there}
use Rattle.world_core.proofs.group_places.place_of.Goals as goal

pub groups_before-before-requires-clause-few : goal.groups_before-before-requires-clause-few
groups_before-before-requires-clause-few c = subst (λ l. length l ≤ 32) (sym c.pools.ensures.value) (pools_are_few c.args.map.now c.epoch-epoch.ensures.accepted)

pub returns-then-group-count-clause-refused : goal.returns-then-group-count-clause-refused
returns-then-group-count-clause-refused c =
    let own : c.groups_before-before.result.1 ≡ groups_in (map_of c.args.map.now).pools c.args.group.now.pool =
    c.groups_before-before.ensures.own ∙ ap (λ l. groups_in l c.args.group.now.pool) c.pools.ensures.value in
    let less : c.args.group.now.number < groups_in (map_of c.args.map.now).pools c.args.group.now.pool =
    subst (λ n. c.args.group.now.number < n) own c.if-group-count.true in
    sym (ap (option_map OfMap) (some_there c.args.map.now c.args.group.now c.epoch-epoch.ensures.accepted less))

pub returns-then-group-count-clause-place : goal.returns-then-group-count-clause-place
returns-then-group-count-clause-place c = λ groups are.
    let own : c.groups_before-before.result.1 ≡ groups_in (map_of c.args.map.now).pools c.args.group.now.pool =
    c.groups_before-before.ensures.own ∙ ap (λ l. groups_in l c.args.group.now.pool) c.pools.ensures.value in
    let less : c.args.group.now.number < groups_in (map_of c.args.map.now).pools c.args.group.now.pool =
    subst (λ n. c.args.group.now.number < n) own c.if-group-count.true in
    let place : place_in (map_of c.args.map.now).pools c.args.group.now ≡ c.groups_before-before.result.0 + c.args.group.now.number =
    ap (λ l. place_in l c.args.group.now) (sym c.pools.ensures.value) ∙ c.groups_before-before.ensures.before c.args.group.now.number in
    subst (IsAt groups c.args.group.now) place
    (has_place c.args.map.now c.args.group.now (some_there c.args.map.now c.args.group.now c.epoch-epoch.ensures.accepted less) groups are)

pub unreachable-requires : goal.unreachable-requires
unreachable-requires c =
    let own : c.groups_before-before.result.1 ≡ groups_in (map_of c.args.map.now).pools c.args.group.now.pool =
    c.groups_before-before.ensures.own ∙ ap (λ l. groups_in l c.args.group.now.pool) c.pools.ensures.value in
    let most : groups_in (map_of c.args.map.now).pools c.args.group.now.pool ≤ c.args.group.now.number =
    subst (λ n. n ≤ c.args.group.now.number) own c.if-group-count.false in
    none_missing c.args.map.now c.args.group.now most (sym c.acting_refusal.ensures ∙ c.in-None.is)
