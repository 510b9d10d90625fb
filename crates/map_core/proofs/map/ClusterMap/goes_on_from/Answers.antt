use Rattle.std.proofs.Common.{rules}
use Rattle.map_core.proofs.map.ClusterMap.goes_on_from.Goals as goal

pub returns-then-earlier-self : goal.returns-then-earlier-self
returns-then-earlier-self c = search rules
