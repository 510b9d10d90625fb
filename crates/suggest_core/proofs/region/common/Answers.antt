use Rattle.std.proofs.Common.{string_bytes, drop}
use Rattle.suggest_core.specs.Region.{common}
use Rattle.suggest_core.proofs.Beginnings.{common_ends}
use Rattle.suggest_core.proofs.region.common.Goals as goal

pub returns-in_default : goal.returns-in_default
returns-in_default c =
    common_ends (string_bytes c.loop-byte.front) (drop c.loop-byte.byte-index c.args.name.now) c.loop-byte.rest.now (common c.args.name.now c.args.other.now) c.in_default.ensures.cases c.loop-byte.invariant
