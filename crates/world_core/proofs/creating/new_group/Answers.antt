use Rattle.std.proofs.Common.{◌≡◌, IfOk, ap, subst}
use Rattle.place_core.specs.Placement.{numbers_of}
use Rattle.group_model.specs.Group.{Group}
use Rattle.world_core.proofs.NewGroups.{begun_is}
use Rattle.world_core.proofs.creating.new_group.Goals as goal

pub returns : goal.returns
returns c =
    let is = begun_is c.args.map.now c.args.command.now c.args.min_size c.daemons.result c.args.group c.members_after-acting.result (numbers_of c.up_after-up.result) c.daemons.ensures.value c.members_after-acting.ensures
    (ap numbers_of c.up_after-up.ensures) in
    subst (λ (g : Group). IfOk c.new.result (λ made. made ≡ g)) is c.new.ensures
