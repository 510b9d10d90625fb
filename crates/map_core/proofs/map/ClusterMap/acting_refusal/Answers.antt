use Rattle.std.proofs.Common.{arith}
use Rattle.std.proofs.lemmas.Grind.{elements}
use Rattle.map_core.proofs.map.ClusterMap.acting_refusal.Goals as goal

pub returns : goal.returns
returns c = grind (arith, elements)
