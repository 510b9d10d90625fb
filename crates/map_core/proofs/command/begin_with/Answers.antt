use Rattle.std.proofs.Common.{◌++◌, drop, sym, ap, ◌∙◌, arith, refl}
use Rattle.std.proofs.lemmas.List.{take_all, take-append-drop}
use Rattle.std.proofs.lemmas.Grind.{common_steps}
use Rattle.map_core.proofs.command.begin_with.Goals as goal

pub returns : goal.returns
returns c =
    let n = c.loop-place.place in
    let rest = drop n c.args.commands.now in
    (λ _. (rest, sym (take-append-drop n c.args.commands.now) ∙ ap (λ l. l ++ rest) (c.loop-place.invariant ∙ take_all _ _ (omega arith))), λ _. refl)

pub returns-then-front-commands : goal.returns-then-front-commands
returns-then-front-commands c = grind (arith, common_steps)

pub returns-then-not-equals : goal.returns-then-not-equals
returns-then-not-equals c = grind (arith, common_steps)

pub loop-place-preserved : goal.loop-place-preserved
loop-place-preserved c = grind (arith, common_steps)
