use Rattle.group_model.proofs.Keeping.{promises_kept}
use Rattle.group_model.proofs.Holding.{decided_held}
use Rattle.group_model.proofs.refinement.promises_are_kept.Goals as goal

pub returns : goal.returns
returns c = record { keeps = promises_kept; holds = decided_held }
