use Rattle.std.proofs.Common.{◌≡◌, map, take}
use Rattle.serde_json.specs.View.{view}
use Rattle.audit_text.specs.Json.{cell_document}
use Rattle.audit_text.proofs.json.cells_value.Given as goal

-- the items of the cells so far
abbrev pub invariant-loop-cell : goal.invariant-loop-cell
invariant-loop-cell l = map view l.items.items ≡ map cell_document (take l.cell-index l.cells)
