use Rattle.std.proofs.Common.{rules}
use Rattle.published_map.proofs.published.stage.Goals as goal

pub returns-clause-waiting : goal.returns-clause-waiting
returns-clause-waiting c = search rules
