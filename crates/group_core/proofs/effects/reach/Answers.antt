use Rattle.std.proofs.Common.{rules, ◌≡◌, ◌++◌, ap, sym, ◌∙◌, arith}
use Rattle.std.specs.Prelude.{Some, slice_get}
use Rattle.std.specs.List.{remove}
use Rattle.peer_core.specs.Steps.{Stepped}
use Rattle.peer_core.specs.Copy.{copy_step}
use Rattle.group_model.specs.Types.{Sent, Message}
use Rattle.group_model_whole.proofs.Removed.{remove_before}
use Rattle.std.proofs.lemmas.Grind.{common_steps, elements}
use Rattle.group_core.proofs.effects.reach.Goals as goal

pub returns-clause-wire_ok : goal.returns-clause-wire_ok
returns-clause-wire_ok c = λ m here. (
    let was : Some c.in-Some.message.now ≡ slice_get c.args.wire.now.sent c.args.k = c.in-Some.ensures ∙ ap (λ l. slice_get l c.args.k) c.as_slice.ensures in
    let found : c.in-Some.message.now ≡ m = cc in
    let a : Message = record { from = m.from; body = m.body } in
    let b : Message = record { from = c.in-Some.message.now.from; body = c.in_ok-copy-in-Some.field-0 } in
    let same : b ≡ a = ap (λ v. record { from = c.in-Some.message.now.from; body = v }) c.in_ok-copy-in-Some.ensures ∙ ap (λ (v : Sent). record { from = v.from; body = v.body }) found in
    let step : (copy_step c.args.copy.now a).sent ≡ c.in_ok-sent.sent = ap (λ v. (copy_step c.args.copy.now v).sent) (sym same) ∙ ap (λ (s : Stepped). s.sent) c.in_ok-sent.ensures.ok in
    let whole : c.append.new.self.sent ≡ c.args.wire.now.sent ++ (copy_step c.args.copy.now a).sent =
    c.append.ensures ∙ ap (λ l. l ++ c.into_vec.result.items) c.reserve.ensures.same ∙ ap (λ l. c.args.wire.now.sent ++ l) (c.into_vec.ensures ∙ sym step) in
    c.remove.ensures ∙ ap (λ l. remove l c.args.k) whole ∙ remove_before c.args.wire.now.sent (copy_step c.args.copy.now a).sent c.args.k c.requires.here)

pub unreachable-requires : goal.unreachable-requires
unreachable-requires c = grind (arith, elements)

pub remove-requires : goal.remove-requires
remove-requires c = grind (arith, common_steps)

pub returns-clause-copy_ok : goal.returns-clause-copy_ok
returns-clause-copy_ok c = search rules
