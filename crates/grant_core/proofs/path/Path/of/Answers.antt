use Rattle.std.proofs.Common.{rules}
use Rattle.grant_core.proofs.path.Path.of.Goals as goal

pub returns : goal.returns
returns c = search rules
