use Rattle.std.proofs.Common.{rules}
use Rattle.lint_core.proofs.pools.without_pool.Goals as goal

pub returns-clause-exact : goal.returns-clause-exact
returns-clause-exact c = search rules
