use Rattle.share_core.proofs.Held.{targets_are_held}
use Rattle.share_core.proofs.laws.possible_targets_are_held.Goals as goal

pub returns : goal.returns
returns c = targets_are_held
