use Rattle.map_core.proofs.Kept.{pools_differ as law_differ, pools_are_few as law_few}
use Rattle.map_core.proofs.laws.pools_differ.Goals as goal

pub returns-clause-differ : goal.returns-clause-differ
returns-clause-differ c = law_differ

pub returns-clause-few : goal.returns-clause-few
returns-clause-few c = law_few
