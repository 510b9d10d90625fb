use Rattle.world_core.proofs.Takings.{given_back}
use Rattle.std.proofs.Common.{arith}
use Rattle.std.proofs.lemmas.Grind.{elements}
use Rattle.world_core.proofs.taking.take_back_at.Goals as goal

pub returns : goal.returns
returns c = λ before s h. given_back before c.args.groups.now.items c.args.place s c.index_mut-group.result.now c.undo_submit.new.self h c.index_mut-group.ensures.value c.undo_submit.ensures

pub index_mut-group-requires : goal.index_mut-group-requires
index_mut-group-requires c = grind (arith, elements)

pub undo_submit-requires : goal.undo_submit-requires
undo_submit-requires c = grind (arith, elements)
