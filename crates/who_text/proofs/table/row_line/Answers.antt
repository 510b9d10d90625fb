use Rattle.std.proofs.Common.{arith}
use Rattle.std.proofs.lemmas.Grind.{common_steps}
use Rattle.who_text.proofs.table.row_line.Goals as goal

pub returns : goal.returns
returns c =
    let added = c.in_ok-push_cells.ensures in
    (added.0, added.1, grind (arith, common_steps, added.2))
