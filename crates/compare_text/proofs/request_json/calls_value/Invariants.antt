use Rattle.std.proofs.Common.{◌≡◌, map, take}
use Rattle.serde_json.specs.View.{view}
use Rattle.compare_text.specs.RequestDocument.{call_document}
use Rattle.compare_text.proofs.request_json.calls_value.Given as goal

-- the items so far
abbrev pub invariant-loop-call : goal.invariant-loop-call
invariant-loop-call l = map view l.items.items ≡ map call_document (take l.call-index l.calls)
