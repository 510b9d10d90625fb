use Rattle.map_core.proofs.Tags.{tags_are_possible as law_pools, views_are_possible as law_views}
use Rattle.map_core.proofs.laws.tags_are_possible.Goals as goal

pub returns-clause-pools : goal.returns-clause-pools
returns-clause-pools c = law_pools

pub returns-clause-views : goal.returns-clause-views
returns-clause-views c = law_views
