use Rattle.std.proofs.Common.{arith}
use Rattle.std.proofs.lemmas.Grind.{common_steps}
use Rattle.object_core.proofs.changing.truncate.Goals as goal

pub returns-then-size-gt-MAX_BYTES : goal.returns-then-size-gt-MAX_BYTES
returns-then-size-gt-MAX_BYTES c = grind (arith, common_steps)

pub became-requires : goal.became-requires
became-requires c = grind (arith, common_steps)
