use Rattle.std.proofs.Common.{◌≡◌, ◌++◌, ◌||◌, option_copied, string_bytes, sym, ap, ◌∙◌, arith}
use Rattle.verdict_text.proofs.EachTold.{next_told, told_whole}
use Rattle.lint_text.specs.ReadLinted.{IsReadEntityTold}
use Rattle.lint_text.proofs.entities.lint_read_entities.Goals as goal
use Rattle.lint_text.proofs.entities.lint_read_entities.Goals.{then-fails, else-fails}

pub loop-entity-preserved : goal.loop-entity-preserved
loop-entity-preserved c =
    let ends : c.if-fails.fails ≡ (c.loop-entity.fails || c.in_ok-told.told.fails) =
    elim c.if-fails.branch [
      | then-fails w ↦ w.fails-is ∙ (w.if-fails.true ∙ sym (ap (λ fails. fails || c.in_ok-told.told.fails) w.if-fails.true))
      | else-fails w ↦ w.fails-is ∙ sym (ap (λ fails. fails || c.in_ok-told.told.fails) w.if-fails.false)
    ] in
    next_told (IsReadEntityTold (option_copied c.args.pools) c.args.check) c.args.entities.now c.loop-entity.entity-index c.entity-item.result _ _ _ _ _ _ (omega arith) c.entity-item.is c.loop-entity.invariant
    c.in_ok-told.ensures (c.in_ok-push_str.ensures.bytes ∙ ap (λ front. string_bytes c.loop-entity.text ++ front) c.as_str.ensures.value) ends

pub returns : goal.returns
returns c = told_whole (IsReadEntityTold (option_copied c.args.pools) c.args.check) c.args.entities.now c.loop-entity.entity-index _ _ c.loop-entity-test.false c.loop-entity.invariant
