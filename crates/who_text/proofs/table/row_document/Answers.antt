use Rattle.std.proofs.Common.{ap, ◌∙◌}
use Rattle.who_text.specs.Table.{row_by}
use Rattle.verdict_text.proofs.Results.{ok_also}
use Rattle.verdict_text.specs.declared.format.Format.TheVariants.{Json}
use Rattle.who_text.proofs.table.row_document.Goals as goal

pub returns : goal.returns
returns c =
    ok_also c.row_piece.result
    (λ text h. (
      c.in_ok-answers.answers.items,
      c.in_ok-answers.ensures,
      h ∙ ap (λ answers. row_by Json 0 c.args.name.now answers) c.as_slice.ensures.value,
    ))
    c.row_piece.ensures
