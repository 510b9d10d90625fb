use Rattle.std.proofs.Common.{string_bytes, arith}
use Rattle.rules_text.specs.Junit.{case_of}
use Rattle.rules_text.proofs.Written.{next_written}
use Rattle.rules_text.proofs.junit.push_cases.Goals as goal

pub loop-one-preserved : goal.loop-one-preserved
loop-one-preserved c =
    next_written (case_of c.args.entities.now) c.args.all.now c.loop-one.one-index c.one-item.result (string_bytes c.loop-one.text) (string_bytes c.push_case.new.text) _ (omega arith) c.one-item.is
    c.in_ok-push_case.ensures c.loop-one.invariant
