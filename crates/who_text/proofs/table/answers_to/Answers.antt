use Rattle.std.proofs.Common.{arith}
use Rattle.who_text.proofs.Answers.{next_answer, whole_answers}
use Rattle.who_text.proofs.table.answers_to.Goals as goal

pub loop-asked-preserved : goal.loop-asked-preserved
loop-asked-preserved c =
    next_answer c.args.read.now c.args.requests.now c.loop-asked.asked-index c.asked-item.result c.loop-asked.answers.items _ c.in_ok-answer.answer (omega arith) c.asked-item.is c.loop-asked.invariant c.in_ok-answer.ensures
    c.in_ok-push.ensures.items

pub returns : goal.returns
returns c = whole_answers c.args.read.now c.args.requests.now c.loop-asked.asked-index c.loop-asked.answers.items c.loop-asked-test.false c.loop-asked.invariant
