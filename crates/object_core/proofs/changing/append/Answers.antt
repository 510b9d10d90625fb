use Rattle.std.proofs.Common.{arith}
use Rattle.std.proofs.lemmas.Grind.{common_steps}
use Rattle.object_core.proofs.changing.append.Goals as goal

pub returns-then-len-size : goal.returns-then-len-size
returns-then-len-size c = grind (arith, common_steps)

pub became-requires : goal.became-requires
became-requires c = grind (arith, common_steps)
