use Rattle.std.proofs.Common.{◌≡◌, None, drop}
use Rattle.suggest_core.specs.Region.{common_in, is_in}
use Rattle.suggest_core.proofs.region.common_in.Given as goal

-- with the rest it is what all have in common
abbrev pub invariant-loop-request : goal.invariant-loop-request
invariant-loop-request l = common_in (is_in l.place) l.front (drop l.request-index l.seen) ≡ common_in (is_in l.place) None l.seen
