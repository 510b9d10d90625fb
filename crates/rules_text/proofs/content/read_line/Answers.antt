use Rattle.std.proofs.Common.{Err, ap, subst}
use Rattle.rules_words.specs.Cutting.{IsRead}
use Rattle.rules_text.proofs.Saying.{said_line}
use Rattle.rules_text.proofs.content.read_line.Goals as goal

pub returns-in-Ok : goal.returns-in-Ok
returns-in-Ok c =
    let read = subst (IsRead c.args.line.now) c.in-Ok.is c.in_ok-cut.ensures in
    said_line c.args.reader.now c.args.entities.now c.args.groups.now c.in-Ok.cut c.args.line.now c.said.result read.0 read.1 c.said.ensures

pub returns-in-Err : goal.returns-in-Err
returns-in-Err c = (Err c.in-Err.bad, subst (IsRead c.args.line.now) c.in-Err.is c.in_ok-cut.ensures, ap Err c.word_fault.ensures)
