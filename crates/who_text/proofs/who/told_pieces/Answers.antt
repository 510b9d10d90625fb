use Rattle.std.proofs.Common.{arith, subst, ap, refl, ◌∙◌, ◌++◌, string_bytes}
use Rattle.verdict_text.specs.Answer.{IsAnswerOf}
use Rattle.verdict_text.specs.Asked.{Asked}
use Rattle.who_text.specs.Who.{IsTold, told}
use Rattle.who_text.proofs.Told.{next_in_order, whole_order}
use Rattle.who_text.proofs.who.told_pieces.Goals as goal

pub loop-entity-preserved : goal.loop-entity-preserved
loop-entity-preserved c =
    let asked : Asked = c.args.asked.now in
    next_in_order (IsTold c.args.how.format c.args.how.all asked) c.args.entities.now c.loop-entity.entity-index c.entity-item.result _ _ _ (omega arith) c.entity-item.is c.loop-entity.invariant
    (c.in_ok-answer.answer, subst (λ read. IsAnswerOf read asked c.in_ok-answer.answer) c.read.ensures.is c.in_ok-answer.ensures, refl)
    (c.in_ok-push_told.ensures ∙ ap (λ name. string_bytes c.loop-entity.text ++ told c.args.how.format c.args.how.all name c.in_ok-answer.answer) c.as_str.ensures.value)

pub returns : goal.returns
returns c =
    let asked : Asked = c.args.asked.now in
    whole_order (IsTold c.args.how.format c.args.how.all asked) c.args.entities.now c.loop-entity.entity-index _ c.loop-entity-test.false c.loop-entity.invariant
