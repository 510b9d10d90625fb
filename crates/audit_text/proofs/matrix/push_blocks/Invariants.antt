use Rattle.std.proofs.Common.{◌≡◌, ◌++◌, length, string_bytes}
use Rattle.audit_text.specs.Matrix.{AreParts, blocks}
use Rattle.audit_text.proofs.matrix.push_blocks.Given as goal

-- what is written, and what the rest gives, is the whole
abbrev pub invariant-loop-to : goal.invariant-loop-to
invariant-loop-to l = record {
  parts : AreParts l.widths l.room l.from l.ends (length l.widths);
  written : string_bytes l.text ++ blocks l.label_width l.widths l.lines l.from l.ends ≡ string_bytes l.initial.text ++ blocks l.label_width l.widths l.lines 0 l.initial.ends;
}

abbrev pub decreases-loop-to : goal.decreases-loop-to
decreases-loop-to l = length l.ends
