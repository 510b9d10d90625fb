use Rattle.std.proofs.Common.{◌≡◌, ◌++◌, string_bytes, drop, codes}
use Rattle.std.specs.List.{flat_map}
use Rattle.audit_text.specs.Matrix.{part_line}
use Rattle.audit_text.proofs.matrix.push_block.Given as goal

-- what is written, and what the rest gives, is the whole
abbrev pub invariant-loop-line : goal.invariant-loop-line
invariant-loop-line l =
    string_bytes l.text ++ flat_map (part_line l.label_width l.widths l.from l.to) (drop l.line-index l.lines) ≡ string_bytes l.initial.text ++ flat_map (part_line l.label_width l.widths l.from l.to) l.lines
