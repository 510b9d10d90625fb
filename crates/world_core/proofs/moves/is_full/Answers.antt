use Rattle.std.proofs.Common.{◌≡◌, ◌∙◌, ◌++◌, Some, None, if◌then◌else◌, option_to_list, sym, ap, subst}
use Rattle.map_core.specs.Intervals.{intervals_of}
use Rattle.group_messages.specs.declared.fault.GroupFault.TheVariants as group_fault
use Rattle.store_core.specs.declared.sealed.GroupId.{GroupId}
use Rattle.world_core.proofs.Intervals.{later}
use Rattle.world_core.proofs.FullMoves.{refused_as}
use Rattle.world_core.proofs.moves.is_full.Goals as goal

pub returns-in-Some : goal.returns-in-Some
returns-in-Some c =
    let h = c.args.map.now in
    let P : GroupId → Type 0 = λ id. intervals_of (later h c.args.command.now) id.pool id.number ≡ intervals_of h id.pool id.number ++ option_to_list (Some c.in-Some.field-0) in
    refused_as h c.args.command.now c.args.group.now (Some c.in-Some.field-0) c.requires.moves c.requires.present (subst P c.group-id.ensures c.in-Some.ensures.interval)
    ∙ ap (λ b. if b then Some group_fault.Full else None) (sym c.is_full_of_intervals.ensures)

pub returns-in-None : goal.returns-in-None
returns-in-None c =
    let h = c.args.map.now in
    let P : GroupId → Type 0 = λ id. intervals_of (later h c.args.command.now) id.pool id.number ≡ intervals_of h id.pool id.number ++ option_to_list None in
    refused_as h c.args.command.now c.args.group.now None c.requires.moves c.requires.present (subst P c.group-id.ensures c.in-None.ensures.interval)
