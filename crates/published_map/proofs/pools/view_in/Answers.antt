use Rattle.std.proofs.Common.{◌≡◌, ℕ, Some, subst}
use Rattle.std.specs.Prelude.{Result, Ok, Err, IfOk}
use Rattle.common_types.specs.Refused.{RefusedFirst}
use Rattle.map_core.specs.PoolLimits.{HasLimits}
use Rattle.map_core.specs.Map.{view_at}
use Rattle.map_core.specs.Refusal.{view_refusal}
use Rattle.map_core.specs.declared.fault.MapFault.TheVariants as faults
use Rattle.map_core.specs.declared.pool.PoolView.{PoolView}
use Rattle.published_map.proofs.pools.view_in.Goals as goal

both_ok : {T F : Type 0} → (P Q : T → Type 0) (r : Result T F) → IfOk r P → IfOk r Q → IfOk r (λ x. P x × Q x)
both_ok P Q (Ok x) p q = (p, q)
both_ok P Q (Err e) p q = tt

pub returns-clause-refused : goal.returns-clause-refused
returns-clause-refused c = subst (λ (epoch : ℕ). RefusedFirst (view_refusal c.args.map.now c.args.pool.now epoch) faults.OutOfMemory c.view.result) c.epoch.ensures.value c.view.ensures.refused

pub returns-clause-found : goal.returns-clause-found
returns-clause-found c = both_ok _ (λ (view : PoolView). HasLimits view.pg_num view.size view.min_size) c.view.result
    (subst (λ (epoch : ℕ). IfOk c.view.result (λ view. view_at c.args.map.now c.args.pool.now epoch ≡ Some view)) c.epoch.ensures.value c.view.ensures.view) c.view.ensures.limits
