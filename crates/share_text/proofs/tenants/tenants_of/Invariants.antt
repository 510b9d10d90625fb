use Rattle.std.proofs.Common.{map}
use Rattle.share_text.proofs.Telling.{SoFar}
use Rattle.share_text.proofs.tenants.tenants_of.Given as goal

-- the tenants so far, and those of the rest, are those of all
abbrev pub invariant-loop-live : goal.invariant-loop-live
invariant-loop-live l = SoFar (map (λ live. live.entity) l.lives) l.live-index l.tenants.items
