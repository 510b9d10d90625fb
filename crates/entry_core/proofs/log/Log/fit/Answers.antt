use Rattle.std.proofs.Common.{arith, rules}
use Rattle.std.proofs.lemmas.Grind.{common_steps}
use Rattle.entry_core.proofs.log.Log.fit.Goals as goal

pub decide_behind-requires-clause-one : goal.decide_behind-requires-clause-one
decide_behind-requires-clause-one c = search rules

pub returns-clause-fits : goal.returns-clause-fits
returns-clause-fits c = grind (arith, common_steps)

pub returns-clause-log : goal.returns-clause-log
returns-clause-log c = grind (arith, common_steps)

pub returns-then-len-kept-clause-fits : goal.returns-then-len-kept-clause-fits
returns-then-len-kept-clause-fits c = grind (arith, common_steps)

pub returns-then-len-kept-clause-log : goal.returns-then-len-kept-clause-log
returns-then-len-kept-clause-log c = grind (arith, common_steps)
