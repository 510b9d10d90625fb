use Rattle.std.proofs.Common.{arith}
use Rattle.std.proofs.lemmas.Grind.{common_steps}
use Rattle.place_core.proofs.hashing.group_of.Goals as goal

pub returns : goal.returns
returns c = grind (arith, common_steps)
