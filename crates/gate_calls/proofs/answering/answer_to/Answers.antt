use Rattle.std.proofs.Common.{[], rules}
use Rattle.gate_calls.proofs.Answered.{answer_plain, answer_limited}
use Rattle.gate_calls.proofs.answering.answer_to.Goals as goal

pub returns-in-Plain : goal.returns-in-Plain
returns-in-Plain c =
    answer_plain c.args.caps.now c.grants.result.now c.in-Plain.ticket c.args.request.now [] [] _ _ c.plain_answer.result c.grants.ensures c.in-Plain.is (search rules) (search rules) c.plain_answer.ensures

pub returns : goal.returns
returns c =
    answer_limited c.args.caps.now c.grants.result.now c.in-Limited.limited c.args.request.now [] [] _ _ c.origin_for.result c.limited_answer.result
    c.grants.ensures c.in-Limited.is c.origin_for.ensures (search rules) (search rules) c.limited_answer.ensures
