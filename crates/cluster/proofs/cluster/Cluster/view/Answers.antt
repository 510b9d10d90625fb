use Rattle.cluster.specs.Asks.{known_by}
use Rattle.cluster.specs.Views.{IsView, pool_refusal}
use Rattle.cluster.proofs.Held.{pass_looked}
use Rattle.cluster.proofs.Looks.{looks_more}
use Rattle.cluster.proofs.cluster.Cluster.view.Goals as goal

pub returns-clause-pass : goal.returns-clause-pass
returns-clause-pass c = let old = c.args.pass.now in let new = c.view_of.new.pass in let told = c.view_of.ensures in
    pass_looked c.args.self.now old new c.requires told.same (looks_more (pool_refusal c.args.pool.now) (IsView c.args.pool.now) (known_by old) (known_by new) c.view_of.result told.viewed)
