use Rattle.std.proofs.Common.{arith}
use Rattle.std.proofs.lemmas.Grind.{elements}
use Rattle.verdict_core.proofs.chains.Chains.copy.Goals as goal

pub returns-clause-kinds : goal.returns-clause-kinds
returns-clause-kinds c = grind (arith, elements)

pub returns-clause-first : goal.returns-clause-first
returns-clause-first c = grind (arith, elements)

pub returns-clause-next : goal.returns-clause-next
returns-clause-next c = grind (arith, elements)
