use Rattle.std.proofs.Common.{arith, subst, string_bytes}
use Rattle.std.proofs.lemmas.List.{take_all}
use Rattle.who_text.specs.Brief.{AreCellsAdded}
use Rattle.who_text.proofs.Cells.{next_cell, no_cells}
use Rattle.who_text.proofs.brief.push_cells.Goals as goal

pub loop-asked-init : goal.loop-asked-init
loop-asked-init c = no_cells c.args.read.now (string_bytes c.args.text.now)

pub loop-asked-preserved : goal.loop-asked-preserved
loop-asked-preserved c =
    next_cell c.args.read.now c.args.requests.now c.loop-asked.asked-index c.asked-item.result c.in_ok-answer.answer _ _ _ (omega arith) c.asked-item.is c.loop-asked.invariant c.in_ok-answer.ensures
    c.in_ok-push_brief.ensures

pub returns : goal.returns
returns c = subst (λ requests. AreCellsAdded c.args.read.now requests (string_bytes c.args.text.now) (string_bytes c.loop-asked.text)) (take_all c.loop-asked.asked-index c.args.requests.now c.loop-asked-test.false) c.loop-asked.invariant
