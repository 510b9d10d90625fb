use Rattle.std.proofs.Common.{◌≡◌, ◌++◌, string_bytes, drop}
use Rattle.suggest_core.specs.Region.{common}
use Rattle.suggest_core.proofs.region.common.Given as goal

-- what is written, and what the rests have in common, is the whole
abbrev pub invariant-loop-byte : goal.invariant-loop-byte
invariant-loop-byte l = string_bytes l.front ++ common (drop l.byte-index l.name) l.rest ≡ common l.name l.other
