use Rattle.std.proofs.Common.{◌≡◌, take}
use Rattle.cap_text.proofs.caps.CapList.copy.Given as goal

abbrev pub invariant-loop-grant : goal.invariant-loop-grant
invariant-loop-grant l = l.copies.items ≡ take l.grant-index l.grant-items
