use Rattle.std.proofs.Common.{◌∷◌, ap, ◌∙◌}
use Rattle.world_script.proofs.ScriptWords.{text_refused, text_added}
use Rattle.world_script.proofs.texts.texts.Goals as goal

pub returns-then-not-add_text : goal.returns-then-not-add_text
returns-then-not-add_text c =
    text_refused c.args.words.now c.loop-alloc.words c.next_word-in-loop-alloc.new.self c.in-Some.kind.now c.in-Some-next_word.text.now c.in_ok-text.text c.loop-alloc.caps c.loop-alloc.invariant (c.in-Some.ensures ∙ ap (λ ws. c.in-Some.kind.now ∷ ws) c.in-Some-next_word.ensures) c.in_ok-text.ensures c.if-not-add_text.ensures

pub loop-alloc-preserved : goal.loop-alloc-preserved
loop-alloc-preserved c =
    text_added c.args.words.now c.loop-alloc.words c.next_word-in-loop-alloc.new.self c.in-Some.kind.now c.in-Some-next_word.text.now c.in_ok-text.text c.loop-alloc.caps c.add_text.new.caps c.loop-alloc.invariant (c.in-Some.ensures ∙ ap (λ ws. c.in-Some.kind.now ∷ ws) c.in-Some-next_word.ensures) c.in_ok-text.ensures c.if-not-add_text.ensures
