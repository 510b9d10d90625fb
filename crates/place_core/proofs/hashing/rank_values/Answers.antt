use Rattle.std.proofs.Common.{◌∙◌, ap, arith, fold}
use Rattle.place_core.specs.Placement.{fnv_step}
use Rattle.place_core.proofs.Hashes.{rank_by_steps}
use Rattle.place_core.proofs.hashing.rank_values.Goals as goal

pub returns-clause-values : goal.returns-clause-values
returns-clause-values c = λ d h.
    c.loop-daemon.invariant.values d (omega arith)
    ∙ rank_by_steps c.args.pool.now c.args.group d _ _ _ _ (c.hash_on-named.ensures ∙ ap (fold fnv_step 2166136261) c.as_bytes.ensures.value) c.hash_on.ensures c.hash_decimal-grouped.ensures c.hash_on-front.ensures
