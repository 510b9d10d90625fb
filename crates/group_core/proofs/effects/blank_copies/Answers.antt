use Rattle.std.proofs.Common.{◌≡◌, ◌+◌, ◌∷◌, [], ◌++◌, sym, ◌∙◌, ap, arith, map, take}
use Rattle.peer_core.specs.Steps.{blank}
use Rattle.group_model_whole.specs.ActingSets.{daemons}
use Rattle.group_model_whole.proofs.Daemons.{map-push, next_daemon}
use Rattle.std.proofs.lemmas.Grind.{common_steps}
use Rattle.group_core.proofs.effects.blank_copies.Goals as goal

pub loop-number-preserved : goal.loop-number-preserved
loop-number-preserved c =
    let next : take (c.loop-number.number + 1) daemons ≡ take c.loop-number.number daemons ++ c.loop-number.number ∷ [] = next_daemon c.loop-number.number (omega arith) in
    c.in_ok-push.ensures.items ∙ ap (λ v. c.loop-number.copies.items ++ v ∷ []) c.new.ensures ∙ ap (λ l. l ++ blank c.args.min_size c.loop-number.number ∷ []) c.loop-number.invariant
    ∙ sym (map-push (blank c.args.min_size) (take c.loop-number.number daemons) c.loop-number.number) ∙ ap (λ l. map (blank c.args.min_size) l) (sym next)

pub returns : goal.returns
returns c = grind (arith, common_steps)
