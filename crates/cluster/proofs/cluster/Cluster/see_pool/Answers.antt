use Rattle.std.proofs.Common.{◌∙◌, sym, subst}
use Rattle.std.specs.Prelude.{Result}
use Rattle.map_core.specs.declared.fault.MapFault.{MapFault}
use Rattle.map_core.specs.declared.pool.PoolView.{PoolView}
use Rattle.cluster.specs.declared.fault.ClusterFault.{ClusterFault}
use Rattle.cluster.specs.Pools.{IsUnseen}
use Rattle.cluster.specs.ToAsk.{HasAnswered}
use Rattle.cluster.proofs.PoolsRead.{pool_seen, pool_left_out, pool_refused}
use Rattle.cluster.proofs.cluster.Cluster.see_pool.Goals as goal

pub returns-then-has_pool-clause-ok : goal.returns-then-has_pool-clause-ok
returns-then-has_pool-clause-ok c =
    let start = c.args.self.now.start in
    let a = subst (λ (r : Result PoolView MapFault). HasAnswered start c.args.pool.now r c.args.pass.now c.read_pool.new.pass) c.in-Some-Ok.field-0-is c.in-Some-Ok.ensures.read in
    pool_seen start c.args.pool.now c.args.pass.now c.read_pool.new.pass c.in-Some-Ok.view a (sym c.has_pool.ensures ∙ c.if-has_pool.true)

pub returns-else-has_pool-clause-err : goal.returns-else-has_pool-clause-err
returns-else-has_pool-clause-err c =
    let start = c.args.self.now.start in
    let a = subst (λ (r : Result PoolView MapFault). HasAnswered start c.args.pool.now r c.args.pass.now c.read_pool.new.pass) c.in-Some-Ok.field-0-is c.in-Some-Ok.ensures.read in
    pool_left_out start c.args.pool.now c.args.pass.now c.read_pool.new.pass c.in-Some-Ok.view a (sym c.has_pool.ensures ∙ c.if-has_pool.false)

pub returns-in-Some-Err-clause-err : goal.returns-in-Some-Err-clause-err
returns-in-Some-Err-clause-err c =
    let start = c.args.self.now.start in
    let a = subst (λ (r : Result PoolView MapFault). HasAnswered start c.args.pool.now r c.args.pass.now c.read_pool.new.pass) c.in-Some-Err.field-0-is c.in-Some-Err.ensures.read in
    subst (λ (f : ClusterFault). IsUnseen start c.args.pool.now f c.args.pass.now c.read_pool.new.pass) (sym c.of_view.ensures)
    (pool_refused start c.args.pool.now c.args.pass.now c.read_pool.new.pass c.in-Some-Err.fault a)
