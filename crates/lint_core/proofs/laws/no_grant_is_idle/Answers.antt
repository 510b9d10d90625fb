use Rattle.lint_core.proofs.Idle.{none_is_idle}
use Rattle.lint_core.proofs.laws.no_grant_is_idle.Goals as goal

pub returns : goal.returns
returns c = none_is_idle
