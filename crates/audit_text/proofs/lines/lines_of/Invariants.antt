use Rattle.std.proofs.Common.{◌≡◌, ◌++◌, ◌∷◌, drop}
use Rattle.audit_text.specs.Matrix.{row_lines, lines}
use Rattle.audit_text.proofs.lines.lines_of.Given as goal

-- what is there, and what the rest gives, is the whole
abbrev pub invariant-loop-one : goal.invariant-loop-one
invariant-loop-one l = l.lines.items ++ row_lines l.all (drop l.one-index l.all) ≡ lines l.pools l.all
