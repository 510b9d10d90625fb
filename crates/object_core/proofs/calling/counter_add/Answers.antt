use Rattle.std.proofs.Common.{rules}
use Rattle.object_core.proofs.calling.counter_add.Goals as goal

pub returns : goal.returns
returns c = search rules
