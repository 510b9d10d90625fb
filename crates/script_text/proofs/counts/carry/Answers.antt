use Rattle.std.proofs.Common.{arith}
use Rattle.std.proofs.lemmas.Bool.Decides.{nat_tests}
use Rattle.script_text.proofs.Numerals.{carry_ends}
use Rattle.script_text.proofs.counts.carry.Goals as goal

pub returns-then-digit-lt9 : goal.returns-then-digit-lt9
returns-then-digit-lt9 c = carry_ends c.args.digits.now c.loop-digit.digits c.loop-digit.digit-index 0 c.loop-digit.invariant (omega arith) (grind (arith, nat_tests))
