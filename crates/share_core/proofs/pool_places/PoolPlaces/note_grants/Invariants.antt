use Rattle.share_core.specs.PoolPlaces.{AreKept, noted}
use Rattle.share_core.proofs.NotedPools.{NotedSoFar}
use Rattle.share_core.proofs.pool_places.PoolPlaces.note_grants.Given as goal

-- nothing is lost, and the place is noted for the grants so far
abbrev pub invariant-loop-grant : goal.invariant-loop-grant
invariant-loop-grant l = AreKept (noted l.initial.self) (noted l.self) × NotedSoFar (noted l.self) l.place l.grants l.grant-index
