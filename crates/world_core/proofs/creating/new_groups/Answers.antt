use Rattle.std.proofs.Common.{◌∙◌, ◌∷◌, ◌++◌, [], sym, ap}
use Rattle.map_core.specs.Map.{map_of, epoch_of, after}
use Rattle.map_core.specs.Refusal.{refusal}
use Rattle.world_core.specs.World.{begun_group}
use Rattle.world_front.proofs.Places.{numbered}
use Rattle.world_core.proofs.NewGroups.{one_made, least_needed}
use Rattle.world_core.proofs.creating.new_groups.Goals as goal

pub new_group-requires-clause-least : goal.new_group-requires-clause-least
new_group-requires-clause-least c =
    let p = c.in-PoolCreate in
    least_needed (map_of c.args.map.now) (epoch_of c.args.map.now) p.name p.pg_num p.size p.min_size (ap (refusal (map_of c.args.map.now) (epoch_of c.args.map.now)) (sym p.is) ∙ c.requires)

pub loop-number-preserved : goal.loop-number-preserved
loop-number-preserved c =
    let p = c.in-PoolCreate in
    c.in_ok-push.ensures.items
    ∙ ap (λ g. c.loop-number.made.items ++ g ∷ []) (c.in_ok-new_group.ensures ∙ ap (λ n. begun_group (after (map_of c.args.map.now) c.args.command.now) p.min_size (numbered n c.loop-number.number)) c.in_ok-copy.ensures)
    ∙ ap (λ l. l ++ begun_group (after (map_of c.args.map.now) c.args.command.now) p.min_size (numbered p.name c.loop-number.number) ∷ []) c.loop-number.invariant
    ∙ sym (one_made (after (map_of c.args.map.now) c.args.command.now) p.min_size p.name c.loop-number.number)
