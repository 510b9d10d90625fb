use Rattle.std.proofs.Common.{ap, ◌∙◌}
use Rattle.compare_core.specs.Questions as spec
use Rattle.compare_core.proofs.Asked.{enough_questions}
use Rattle.compare_core.proofs.Results.{ok_also}
use Rattle.compare_core.proofs.question.questions.Goals as goal

pub returns : goal.returns
returns c =
    ok_also c.needs_with.result
    (λ asked is. enough_questions c.args.registry c.args.grant.now c.args.old.now.grants asked.items c.in_ok-calls_for.field-0 (is ∙ ap spec.questions c.as_slice-2.ensures) c.in_ok-calls_for.ensures)
    c.needs_with.ensures
