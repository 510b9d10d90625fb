use Rattle.map_core.proofs.Kept.{pools_stay as law_stay, views_are_of_pools as law_views}
use Rattle.map_core.proofs.laws.pools_stay.Goals as goal

pub returns-clause-stay : goal.returns-clause-stay
returns-clause-stay c = law_stay

pub returns-clause-views : goal.returns-clause-views
returns-clause-views c = law_views
