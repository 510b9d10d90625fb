use Rattle.std.proofs.Common.{take}
use Rattle.who_text.specs.Table.{AreAnswers}
use Rattle.who_text.proofs.table.answers_to.Given as goal

-- the answers to the requests so far
abbrev pub invariant-loop-asked : goal.invariant-loop-asked
invariant-loop-asked l = AreAnswers l.read (take l.asked-index l.requests) l.answers.items
