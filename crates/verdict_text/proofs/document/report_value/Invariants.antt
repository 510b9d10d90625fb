use Rattle.std.proofs.Common.{◌≡◌, map, take}
use Rattle.serde_json.specs.View.{view}
use Rattle.verdict_text.specs.Documents.{condition_document}
use Rattle.verdict_text.proofs.document.report_value.Given as goal

-- the items of the lines so far
abbrev pub invariant-loop-line : goal.invariant-loop-line
invariant-loop-line l = map view l.items.items ≡ map condition_document (take l.line-index l.lines)
