use Rattle.std.proofs.Common.{rules}
use Rattle.share_core.proofs.reaching.reaches.Goals as goal

pub returns-then-gives-2 : goal.returns-then-gives-2
returns-then-gives-2 c = search rules

pub returns-else-gives-2 : goal.returns-else-gives-2
returns-else-gives-2 c = search rules
