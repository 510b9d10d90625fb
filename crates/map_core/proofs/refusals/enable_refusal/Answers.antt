use Rattle.std.proofs.Common.{rules}
use Rattle.map_core.proofs.refusals.enable_refusal.Goals as goal

pub returns-then-is_none : goal.returns-then-is_none
returns-then-is_none c = search rules
