use Rattle.std.proofs.Common.{arith}
use Rattle.audit_text.proofs.Columns.{step_fits}
use Rattle.audit_text.proofs.matrix.part_end.Goals as goal

pub loop-to-preserved : goal.loop-to-preserved
loop-to-preserved c =
    step_fits c.args.widths.now c.args.room c.args.from c.loop-to.to c.loop-to.left c.in-Some.behind c.room_behind-in-loop-to.result c.room_behind-in-loop-to.ensures c.in-Some.is (omega arith) (omega arith)
    c.loop-to.invariant
