use Rattle.std.proofs.Common.{◌≡◌, map, take}
use Rattle.serde_json.specs.View.{view}
use Rattle.compare_text.specs.RequestDocument.{tag_document}
use Rattle.compare_text.proofs.request_json.tags_value.Given as goal

-- the items so far
abbrev pub invariant-loop-app : goal.invariant-loop-app
invariant-loop-app l = map view l.items.items ≡ map tag_document (take l.app-index l.tags)
