use Rattle.map_core.proofs.Daemons.{sets_are_acting as law_sets, up_are_there as law_up}
use Rattle.map_core.proofs.laws.sets_are_acting.Goals as goal

pub returns-clause-sets : goal.returns-clause-sets
returns-clause-sets c = law_sets

pub returns-clause-up : goal.returns-clause-up
returns-clause-up c = law_up
