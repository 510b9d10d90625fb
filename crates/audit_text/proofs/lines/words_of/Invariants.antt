use Rattle.std.proofs.Common.{◌≡◌, map, take}
use Rattle.audit_text.specs.Words.{cell_word}
use Rattle.audit_text.proofs.lines.words_of.Given as goal

-- what the first ones give
abbrev pub invariant-loop-cell : goal.invariant-loop-cell
invariant-loop-cell l = l.words ≡ map cell_word (take l.cell-index l.cells)
