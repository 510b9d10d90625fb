use Rattle.std.proofs.Common.{rules}
use Rattle.map_core.proofs.map.begun.Goals as goal

pub returns-else-not-equals : goal.returns-else-not-equals
returns-else-not-equals c = search rules
