use Rattle.std.proofs.Common.{◌≡◌, ◌++◌, string_bytes, drop, codes}
use Rattle.std.specs.List.{flat_map}
use Rattle.audit_text.specs.Words.{cell_word}
use Rattle.audit_core.specs.declared.cell.Cell.{Cell}
use Rattle.audit_text.proofs.csv.push_cell_fields.Given as goal

-- what is written, and what the rest gives, is the whole
abbrev pub invariant-loop-cell : goal.invariant-loop-cell
invariant-loop-cell l =
    string_bytes l.text ++ flat_map (λ (cell : Cell). codes "," ++ cell_word cell) (drop l.cell-index l.cells) ≡ string_bytes l.initial.text ++ flat_map (λ (cell : Cell). codes "," ++ cell_word cell) l.cells
