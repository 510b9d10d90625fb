use Rattle.std.proofs.Common.{rules}
use Rattle.store_core.proofs.sealed.Sealed.vector.Goals as goal

pub invariant_of-result : goal.invariant_of-result
invariant_of-result c = search rules
