use Rattle.std.proofs.Common.{sym, subst}
use Rattle.gate_calls.specs.Answers.{IsAnswerAt}
use Rattle.gate_calls.specs.declared.answering.Answer.{Answer}
use Rattle.gate_calls.specs.declared.answering.Origin.TheVariants.{Anywhere}
use Rattle.gate_calls.proofs.Plain.{plain, plain_answers}
use Rattle.gate_calls.proofs.answering.plain_answer.Goals as goal

pub returns : goal.returns
returns c =
    subst (λ (a : Answer). IsAnswerAt (plain c.args.ticket.now) c.args.target.now c.args.needs.now c.args.tick Anywhere a) (sym c.verdict.ensures)
    (plain_answers c.args.ticket.now c.args.target.now c.args.needs.now c.args.tick c.judge.result c.judge.ensures)
