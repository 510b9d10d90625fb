use Rattle.std.proofs.Common.{arith}
use Rattle.share_core.specs.PoolPlaces.{noted}
use Rattle.share_core.proofs.NotedPools.{all_noted, one_noted}
use Rattle.std.proofs.lemmas.Grind.{elements}
use Rattle.share_core.proofs.pool_places.PoolPlaces.note_grants.Goals as goal

pub loop-grant-preserved : goal.loop-grant-preserved
loop-grant-preserved c = (
  λ pool place has. c.note_pool.ensures.kept pool place (c.loop-grant.invariant.0 pool place has),
  one_noted (noted c.loop-grant.self) (noted c.note_pool.new.self) c.args.place c.args.grants.now c.loop-grant.grant-index c.grant-item.result (omega arith) c.grant-item.is c.note_pool.ensures.kept
      c.in_ok-note_pool.ensures.added c.loop-grant.invariant.1,
)

pub returns-clause-added : goal.returns-clause-added
returns-clause-added c = grind (arith, elements)
