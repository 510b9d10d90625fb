use Rattle.std.proofs.Common.{rules}
use Rattle.store_core.proofs.sealed.Sealed.lists.Goals as goal

pub returns-then-equals-2 : goal.returns-then-equals-2
returns-then-equals-2 c = search rules
