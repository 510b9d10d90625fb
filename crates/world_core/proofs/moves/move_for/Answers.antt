use Rattle.std.proofs.Common.{rules}
use Rattle.world_core.proofs.moves.move_for.Goals as goal

pub returns : goal.returns
returns c = search rules
