use Rattle.std.proofs.Common.{take}
use Rattle.store_core.specs.Objects.{AlikeFor}
use Rattle.store_core.proofs.objects.Objects.needed_by.Given as goal

abbrev pub invariant-loop-sealed : goal.invariant-loop-sealed
invariant-loop-sealed l = AlikeFor l.few l.self (take l.sealed-index l.part)
