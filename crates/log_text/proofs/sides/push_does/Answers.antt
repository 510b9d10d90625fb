use Rattle.std.proofs.Common.{codes, not, string_bytes}
use Rattle.std.proofs.lemmas.Result.{on_ok_weaker}
use Rattle.compare_text.specs.Words.{flag_words}
use Rattle.log_text.proofs.Joining.{three}
use Rattle.log_text.proofs.sides.push_does.Goals as goal

pub returns : goal.returns
returns c =
    on_ok_weaker c.push_if-3.result
    (three (string_bytes c.args.text.now) (string_bytes c.push_if.new.text) (string_bytes c.push_if-2.new.text) (string_bytes c.push_if-3.new.text) (flag_words c.args.call.now.class_reads (codes " that reads")) (flag_words c.args.call.now.class_writes (codes " that writes")) (flag_words (not c.args.call.now.listed) (codes ", unlisted")) c.in_ok-push_if.ensures c.in_ok-push_if-2.ensures)
    c.push_if-3.ensures
