use Rattle.std.proofs.Common.{◌≡◌, take}
use Rattle.common_types.proofs.items.ItemsTryClone.copy.Given as goal

abbrev pub invariant-loop-x : goal.invariant-loop-x
invariant-loop-x g l = l.all.items ≡ take l.x-index l.x-items
