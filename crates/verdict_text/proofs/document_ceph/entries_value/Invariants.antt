use Rattle.std.proofs.Common.{◌≡◌, map, take}
use Rattle.serde_json.specs.View.{view}
use Rattle.verdict_text.specs.CephExplained.{entry_document}
use Rattle.verdict_text.proofs.document_ceph.entries_value.Given as goal

-- the items so far
abbrev pub invariant-loop-entry : goal.invariant-loop-entry
invariant-loop-entry l = map view l.items.items ≡ map entry_document (take l.entry-index l.entries)
