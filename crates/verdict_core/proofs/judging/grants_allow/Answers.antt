use Rattle.std.proofs.Common.{◌∙◌}
use Rattle.std.proofs.lemmas.Grind.{common_steps}
use Rattle.std.proofs.Common.{arith}
use Rattle.verdict_core.proofs.Walks.{by_calls}
use Rattle.verdict_core.proofs.judging.grants_allow.Goals as goal

pub returns-else-is_empty : goal.returns-else-is_empty
returns-else-is_empty c = c.are_covered.ensures ∙ by_calls c.args.grants.now c.args.target.now c.args.needs.now c.args.needs.now.calls (λ e. grind (arith, common_steps, e))

pub returns-then-is_empty : goal.returns-then-is_empty
returns-then-is_empty c = grind (arith, common_steps)
