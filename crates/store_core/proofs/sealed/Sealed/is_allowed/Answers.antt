use Rattle.std.proofs.Common.{rules}
use Rattle.store_core.proofs.sealed.Sealed.is_allowed.Goals as goal

pub returns : goal.returns
returns c = search rules
