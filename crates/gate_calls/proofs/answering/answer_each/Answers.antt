use Rattle.std.proofs.Common.{arith}
use Rattle.std.proofs.lemmas.Grind.{common_steps}
use Rattle.gate_calls.proofs.Numbered.{one_more}
use Rattle.gate_calls.proofs.answering.answer_each.Goals as goal

pub loop-i-preserved : goal.loop-i-preserved
loop-i-preserved c = record {
  lengths = grind (arith, common_steps);
  judged = one_more c.args.caps.now c.args.requests.now c.loop-i.answers c.loop-i.i _ c.answer_to.result c.answer_code.result c.loop-i-test.true (omega arith) c.answer_to.ensures c.answer_code.ensures.code c.loop-i.invariant.judged;
}
