use Rattle.world_core.proofs.Accepted.{group_served}
use Rattle.closed_laws.proofs.laws.groups_are_served.Goals as goal

pub returns : goal.returns
returns c w id g sound there = group_served w id g sound.kept there
