use Rattle.world_core.proofs.Holding.{world_holds, holds_on}
use Rattle.world_laws.proofs.laws.worlds_hold.Goals as goal

pub returns : goal.returns
returns c = record { all = world_holds; next = holds_on }
