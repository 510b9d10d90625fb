use Rattle.std.proofs.Common.{◌≡◌, ◌++◌, take, sym, ap, ◌∙◌, subst, arith, ◌+◌}
use Rattle.std.specs.Option.{option_to_list}
use Rattle.compare_core.specs.Widening.{AnswersBy}
use Rattle.compare_core.proofs.Gains.{append_nil, all_gained, nothing_widens, no_examples, answers_step, answers_whole}
use Rattle.std.proofs.lemmas.Grind.{common_steps}
use Rattle.compare_core.proofs.comparing.widening_by.Goals as goal
use Rattle.compare_core.proofs.comparing.widening_by.Goals.{in-Some+in_ok-push, in_default}

pub loop-entry-preserved : goal.loop-entry-preserved
loop-entry-preserved c =
    let more : AnswersBy c.args.registry c.args.old.now.grants (take (c.loop-entry.entry-index + 1) c.grants-entry-items.result.now) (c.loop-entry.examples.items ++ option_to_list c.in_ok-example.field-0) =
    answers_step c.args.registry c.args.old.now.grants c.grants-entry-items.result.now c.loop-entry.entry-index c.entry-item.result c.loop-entry.examples.items c.in_ok-example.field-0
    (omega arith) c.entry-item.is c.loop-entry.invariant c.in_ok-example.ensures in
    let pushed : c.match-branch-2.examples.items ≡ c.loop-entry.examples.items ++ option_to_list c.in_ok-example.field-0 =
    elim c.match-branch-2.branch [
      | in-Some+in_ok-push w ↦
          ap (λ v. v.items) w.examples-is ∙ (w.in_ok-push.ensures.items ∙ ap (λ o. c.loop-entry.examples.items ++ option_to_list o) (sym w.in-Some.is))
      | in_default w ↦
          ap (λ v. v.items) w.examples-is ∙ (sym (append_nil c.loop-entry.examples.items) ∙ ap (λ o. c.loop-entry.examples.items ++ option_to_list o) (sym w.in_default.is))
    ] in
    subst (AnswersBy c.args.registry c.args.old.now.grants (take (c.loop-entry.entry-index + 1) c.grants-entry-items.result.now)) (sym pushed) more

pub returns-clause-gained : goal.returns-clause-gained
returns-clause-gained c =
    all_gained c.args.registry c.args.old.now.grants c.args.new.now.grants c.loop-entry.examples.items
    (answers_whole c.args.registry c.args.old.now.grants c.args.new.now.grants c.grants-entry-items.result.now c.loop-entry.entry-index c.loop-entry.examples.items c.grants-entry-items.ensures.grants c.loop-entry-test.false c.loop-entry.invariant)

pub returns-clause-empty : goal.returns-clause-empty
returns-clause-empty c =
    let all : AnswersBy c.args.registry c.args.old.now.grants c.args.new.now.grants c.loop-entry.examples.items =
    answers_whole c.args.registry c.args.old.now.grants c.args.new.now.grants c.grants-entry-items.result.now c.loop-entry.entry-index c.loop-entry.examples.items c.grants-entry-items.ensures.grants c.loop-entry-test.false c.loop-entry.invariant in
    (λ none. nothing_widens c.args.registry c.args.old.now.grants c.args.new.now.grants (subst (AnswersBy c.args.registry c.args.old.now.grants c.args.new.now.grants) none all), no_examples c.args.registry c.args.old.now.grants c.args.new.now.grants c.loop-entry.examples.items all)

pub returns-clause-answers : goal.returns-clause-answers
returns-clause-answers c = grind (arith, common_steps)
