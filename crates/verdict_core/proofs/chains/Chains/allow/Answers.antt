use Rattle.std.proofs.Common.{◌∙◌}
use Rattle.std.proofs.lemmas.Grind.{common_steps}
use Rattle.std.proofs.Common.{arith}
use Rattle.verdict_core.proofs.Walks.{by_calls}
use Rattle.verdict_core.proofs.chains.Chains.allow.Goals as goal

pub returns-then-not-is_empty : goal.returns-then-not-is_empty
returns-then-not-is_empty c = c.cover_calls.ensures ∙ by_calls c.args.grants.now c.args.target.now c.args.needs.now c.args.needs.now.calls (λ e. grind (arith, common_steps, e))

pub returns-then-needs-2 : goal.returns-then-needs-2
returns-then-needs-2 c = grind (arith, common_steps)
