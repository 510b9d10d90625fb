use Rattle.std.proofs.Common.{ap, sym, ◌∙◌}
use Rattle.share_core.specs.PoolPlaces.{of_name}
use Rattle.share_core.proofs.NotedPools.{prepared_known, prepared_same}
use Rattle.share_core.proofs.pool_places.prepare.Goals as goal

pub returns-in_ok-insert-clause-same : goal.returns-in_ok-insert-clause-same
returns-in_ok-insert-clause-same c = λ wanted.
    ap (λ es. of_name es wanted) c.in_ok-insert.ensures.entries
    ∙ prepared_same c.args.named.now c.args.name.now c.in_ok-key.key c.new.result c.in_ok-key.ensures.ok (sym c.contains_key.ensures ∙ c.if-not-contains_key.true) c.new.ensures.items wanted
