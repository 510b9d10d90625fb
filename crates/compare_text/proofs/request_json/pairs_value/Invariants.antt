use Rattle.std.proofs.Common.{◌≡◌, map, take}
use Rattle.serde_json.specs.View.{view}
use Rattle.compare_text.specs.RequestDocument.{key_document}
use Rattle.compare_text.proofs.request_json.pairs_value.Given as goal

-- the items so far
abbrev pub invariant-loop-pair : goal.invariant-loop-pair
invariant-loop-pair l = map view l.items.items ≡ map key_document (take l.pair-index l.pairs)
