use Rattle.std.proofs.Common.{rules}
use Rattle.store_core.specs.Deciding.{answer_on}
use Rattle.store_core.proofs.deciding.decide.Goals as goal

pub returns-then-not-is_allowed : goal.returns-then-not-is_allowed
unfolding answer_on
returns-then-not-is_allowed c = search rules
