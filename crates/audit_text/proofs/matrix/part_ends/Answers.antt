use Rattle.audit_text.proofs.Columns.{parts_more}
use Rattle.audit_text.proofs.matrix.part_ends.Goals as goal

pub loop-from-preserved : goal.loop-from-preserved
loop-from-preserved c = record {
  parts = parts_more c.args.widths.now c.args.room c.loop-from.from c.part_end-from.result c.loop-from.ends.items c.push.new.self.items c.loop-from.invariant.parts c.part_end-from.ensures c.in_ok-push.ensures.items;
  within = c.part_end-from.ensures.within;
}
