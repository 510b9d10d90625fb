use Rattle.std.proofs.Common.{rules}
use Rattle.group_core.proofs.moves.PreparedGroup.give_up.Goals as goal

pub returns : goal.returns
returns c = search rules
