use Rattle.std.proofs.Common.{arith}
use Rattle.std.proofs.lemmas.Grind.{common_steps}
use Rattle.group_wire.proofs.wire.Wire.drop_passed.Goals as goal

pub returns : goal.returns
returns c = grind (arith, common_steps)
