use Rattle.std.proofs.Common.{◌≡◌, fold, take}
use Rattle.place_core.specs.Placement.{fnv_step}
use Rattle.place_core.proofs.hashing.hash_on.Given as goal

abbrev pub invariant-loop-byte : goal.invariant-loop-byte
invariant-loop-byte l = l.hash ≡ fold fnv_step l.start (take l.byte-index l.bytes)
