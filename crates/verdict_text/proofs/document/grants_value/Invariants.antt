use Rattle.std.proofs.Common.{◌≡◌, map, take}
use Rattle.serde_json.specs.View.{view}
use Rattle.verdict_text.specs.Documents.{grant_document}
use Rattle.verdict_text.proofs.document.grants_value.Given as goal

-- the items of the grants so far
abbrev pub invariant-loop-entry : goal.invariant-loop-entry
invariant-loop-entry l = map view l.items.items ≡ map grant_document (take l.entry-index l.grants)
