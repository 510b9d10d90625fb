use Rattle.std.proofs.Common.{◌≡◌, ◌∙◌, ◌++◌, OnOk, Ok, sym, ap, subst, string_bytes}
use Rattle.script_printing.specs.Text.{id_text, asked_text}
use Rattle.world_script.proofs.QuestionLines.{answered, unasked}
use Rattle.world_script.proofs.questions.answer.Goals as goal

pub returns-in-Ok : goal.returns-in-Ok
returns-in-Ok c =
    subst (λ text. OnOk c.push_answer.result (string_bytes c.push_answer.new.text ≡ string_bytes c.args.text.now ++ text))
    (ap (λ reply. asked_text (id_text c.args.id) (Ok reply)) c.in-Ok.ensures.answer ∙ ap (asked_text (id_text c.args.id)) (sym (answered c.args.world.now c.args.id c.in-Ok.ensures.refused)))
    c.push_answer.ensures

pub returns-in-Err : goal.returns-in-Err
returns-in-Err c =
    subst (λ text. OnOk c.push_refused.result (string_bytes c.push_refused.new.text ≡ string_bytes c.args.text.now ++ text))
    (ap (asked_text (id_text c.args.id)) (sym (unasked c.args.world.now c.args.id c.in-Err.fault c.in-Err.ensures.refused)))
    c.push_refused.ensures
