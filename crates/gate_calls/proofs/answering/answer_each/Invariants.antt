use Rattle.std.proofs.Common.{◌≡◌, length, take}
use Rattle.gate_calls.specs.Answers.{AreCodes}
use Rattle.gate_calls.proofs.answering.answer_each.Given as goal

abbrev pub invariant-loop-i : goal.invariant-loop-i
invariant-loop-i l = record {
  lengths : length l.answers ≡ length l.requests;
  judged : AreCodes l.caps (take l.i l.requests) (take l.i l.answers);
}
