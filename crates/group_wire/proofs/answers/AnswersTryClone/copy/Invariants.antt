use Rattle.std.proofs.Common.{◌≡◌, take}
use Rattle.group_wire.proofs.answers.AnswersTryClone.copy.Given as goal

abbrev pub invariant-loop-answer : goal.invariant-loop-answer
invariant-loop-answer l = l.all ≡ take l.answer-index l.answer-items
