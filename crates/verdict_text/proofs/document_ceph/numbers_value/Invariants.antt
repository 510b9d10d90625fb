use Rattle.std.proofs.Common.{◌≡◌, map, take}
use Rattle.serde_json.specs.View.{view}
use Rattle.verdict_text.specs.CephExplained.{number_document}
use Rattle.verdict_text.proofs.document_ceph.numbers_value.Given as goal

-- the items so far
abbrev pub invariant-loop-number : goal.invariant-loop-number
invariant-loop-number l = map view l.items.items ≡ map number_document (take l.number-index l.numbers)
