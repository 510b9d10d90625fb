use Rattle.std.proofs.Common.{◌≡◌, ◌++◌, ◌∷◌, [], List, Some, refl, sym, ap, subst, ◌∙◌, arith, length, ◌<◌}
use Rattle.std.proofs.lemmas.Bool.{eqb-true}
use Rattle.object_core.specs.declared.op.Op.{Op}
use Rattle.world_script.specs.Command.{an_op}
use Rattle.world_script.proofs.ScriptWords.{IsReadTo, read_none, nothing_read, at_the_end, last_read, bad_behind, more_behind}
use Rattle.world_script.proofs.operations.ops.Goals as goal

pub loop-alloc-init : goal.loop-alloc-init
loop-alloc-init c = subst (IsReadTo c.args.words.now c.args.words.now) (sym c.in_ok-ops.ensures.items) (read_none c.args.words.now)

pub returns-in-None : goal.returns-in-None
returns-in-None c = nothing_read c.args.words.now c.loop-alloc.words c.loop-alloc.ops.items c.loop-alloc.invariant (rw c.in-None.is at c.in_ok-op.ensures.takes)

pub returns-in-None-next_word : goal.returns-in-None-next_word
returns-in-None-next_word c =
    let taken : an_op c.loop-alloc.words ≡ Some (c.in-Some.op, c.op.new.words) = rw c.in-Some.is at c.in_ok-op.ensures.takes in
    let none : c.op.new.words ≡ [] = c.in-None-next_word.ensures.0 in
    let left : c.next_word.new.self ≡ [] = c.in-None-next_word.ensures.1 in
    let items : c.push.new.self.items ≡ c.loop-alloc.ops.items ++ c.in-Some.op ∷ [] = c.in_ok-push-in-Some.ensures.items in
    last_read c.args.words.now c.loop-alloc.words c.loop-alloc.ops.items c.in-Some.op c.loop-alloc.invariant (taken ∙ ap (λ ws. Some (c.in-Some.op, ws)) none)
    ∙ ap (λ (o : List Op). Some (o, [])) (sym (c.from_vec.ensures ∙ items)) ∙ ap (λ ws. Some (c.from_vec.result, ws)) (sym left)

pub loop-alloc-preserved : goal.loop-alloc-preserved
loop-alloc-preserved c =
    let taken : an_op c.loop-alloc.words ≡ Some (c.in-Some.op, c.op.new.words) = rw c.in-Some.is at c.in_ok-op.ensures.takes in
    let shorter : length c.op.new.words < length c.loop-alloc.words = (rw c.in-Some.is at c.in_ok-op.ensures.shorter) refl in
    let left : c.op.new.words ≡ c.in-Some-text.field-0.now ∷ c.next_word.new.self = c.in-Some-text.ensures in
    let items : c.push.new.self.items ≡ c.loop-alloc.ops.items ++ c.in-Some.op ∷ [] = c.in_ok-push-in-Some.ensures.items in
    subst (IsReadTo c.args.words.now c.next_word.new.self) (sym items)
    (more_behind c.args.words.now c.loop-alloc.words c.next_word.new.self c.in-Some-text.field-0.now c.loop-alloc.ops.items c.in-Some.op c.loop-alloc.invariant
    (taken ∙ ap (λ ws. Some (c.in-Some.op, ws)) left) c.in-Some-text.is-text (omega (arith, ap length left)))

pub returns-in-Some-next_word : goal.returns-in-Some-next_word
returns-in-Some-next_word c =
    let taken : an_op c.loop-alloc.words ≡ Some (c.in-Some.op, c.op.new.words) = rw c.in-Some.is at c.in_ok-op.ensures.takes in
    let left : c.op.new.words ≡ c.in-Some-next_word.field-0.now ∷ c.next_word.new.self = c.in-Some-next_word.ensures in
    bad_behind c.args.words.now c.loop-alloc.words c.next_word.new.self c.in-Some-next_word.field-0.now c.loop-alloc.ops.items c.in-Some.op c.loop-alloc.invariant
    (taken ∙ ap (λ ws. Some (c.in-Some.op, ws)) left) c.in-Some-next_word.not-text

pub returns : goal.returns
returns c = let t = c.loop-alloc-test.false in at_the_end c.args.words.now c.loop-alloc.words c.loop-alloc.ops.items c.loop-alloc.invariant (eqb-true (length c.loop-alloc.words) 0 (sym c.is_empty.ensures ∙ t))
