use Rattle.std.proofs.Common.{codes, string_bytes}
use Rattle.std.proofs.lemmas.Result.{on_ok_weaker}
use Rattle.log_text.specs.Decision.{marked}
use Rattle.log_text.proofs.Joining.{three}
use Rattle.log_text.proofs.written.push_bits.Goals as goal

pub returns : goal.returns
returns c =
    on_ok_weaker c.push_marked-3.result
    (three (string_bytes c.args.text.now) (string_bytes c.push_marked.new.text) (string_bytes c.push_marked-2.new.text) (string_bytes c.push_marked-3.new.text) (marked (codes " rd ") c.args.call.now.class_reads) (marked (codes " wr ") c.args.call.now.class_writes) (marked (codes " allowed ") c.args.call.now.listed) c.in_ok-push_marked.ensures c.in_ok-push_marked-2.ensures)
    c.push_marked-3.ensures
