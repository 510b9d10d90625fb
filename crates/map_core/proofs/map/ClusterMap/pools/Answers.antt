use Rattle.map_core.proofs.Current.{limits_now}
use Rattle.map_core.proofs.map.ClusterMap.pools.Goals as goal

pub returns-clause-limits : goal.returns-clause-limits
returns-clause-limits c = limits_now c.self.inside.daemons c.self.inside.commands.items c.self.inside.pools.items _ c.self.invariant.accepted c.self.invariant.pools c.as_slice.ensures.value
