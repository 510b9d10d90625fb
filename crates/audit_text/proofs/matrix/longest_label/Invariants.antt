use Rattle.std.proofs.Common.{◌≡◌, drop, max}
use Rattle.audit_text.specs.Matrix.{label_width}
use Rattle.audit_text.proofs.matrix.longest_label.Given as goal

-- with what the rest has, it is the whole
abbrev pub invariant-loop-line : goal.invariant-loop-line
invariant-loop-line l = max l.longest (label_width (drop l.line-index l.lines)) ≡ label_width l.lines
