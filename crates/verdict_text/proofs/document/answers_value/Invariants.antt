use Rattle.std.proofs.Common.{◌≡◌, map, take}
use Rattle.serde_json.specs.View.{view}
use Rattle.verdict_text.specs.Documents.{answer_document}
use Rattle.verdict_text.proofs.document.answers_value.Given as goal

-- the items of the answers so far
abbrev pub invariant-loop-answer : goal.invariant-loop-answer
invariant-loop-answer l = map view l.items.items ≡ map answer_document (take l.answer-index l.answers)
