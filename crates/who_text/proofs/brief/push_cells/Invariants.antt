use Rattle.std.proofs.Common.{take, string_bytes}
use Rattle.who_text.specs.Brief.{AreCellsAdded}
use Rattle.who_text.proofs.brief.push_cells.Given as goal

-- the cells of the requests so far are added
abbrev pub invariant-loop-asked : goal.invariant-loop-asked
invariant-loop-asked l = AreCellsAdded l.read (take l.asked-index l.requests) (string_bytes l.initial.text) (string_bytes l.text)
