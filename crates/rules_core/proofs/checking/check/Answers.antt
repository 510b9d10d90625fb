use Rattle.std.proofs.Common.{◌≡◌, true, [], option_copied, sym, subst, arith}
use Rattle.std.proofs.lemmas.Grind.{common_steps}
use Rattle.rules_core.specs.Near.{AreEnough}
use Rattle.rules_core.specs.Rules.{is_of_somebody}
use Rattle.rules_core.proofs.CheckSteps.{kept}
use Rattle.rules_core.proofs.checking.check.Goals as goal

pub findings-requires : goal.findings-requires
findings-requires c = subst (AreEnough (option_copied c.args.pools) c.args.rule.now c.args.entities.now) (sym c.as_slice.ensures.value) (c.in_ok-places.ensures (option_copied c.args.pools))

pub returns-then-is_empty : goal.returns-then-is_empty
returns-then-is_empty c =
    let somebody : is_of_somebody c.args.rule.now c.args.entities.now ≡ true = grind (arith, common_steps) in
    let empty : c.in_ok-founds.founds.items ≡ [] = grind (arith, common_steps) in
    (somebody, kept (option_copied c.args.pools) c.args.rule.now c.args.entities.now c.in_ok-founds.founds.items empty c.in_ok-founds.ensures)
