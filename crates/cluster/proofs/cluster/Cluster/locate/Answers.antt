use Rattle.cluster.specs.Asks.{known_by}
use Rattle.published_map.specs.Answers.{IsLocated}
use Rattle.cluster.specs.Views.{IsView, pool_refusal}
use Rattle.cluster.proofs.Held.{pass_looked}
use Rattle.cluster.proofs.Looks.{looks_more}
use Rattle.cluster.proofs.cluster.Cluster.locate.Goals as goal

pub returns-then-are_names-clause-pass : goal.returns-then-are_names-clause-pass
returns-then-are_names-clause-pass c = let old = c.args.pass.now in let new = c.locate_named.new.pass in let told = c.locate_named.ensures in
    pass_looked c.args.self.now old new c.requires told.same (looks_more (pool_refusal c.args.pool.now) (λ map located. IsLocated map c.args.pool.now c.args.namespace.now c.args.object.now located) (known_by old) (known_by new) c.locate_named.result told.located)

pub returns-clause-pass : goal.returns-clause-pass
returns-clause-pass c = let old = c.args.pass.now in let new = c.view_of.new.pass in let told = c.view_of.ensures in
    pass_looked c.args.self.now old new c.requires told.same (looks_more (pool_refusal c.args.pool.now) (IsView c.args.pool.now) (known_by old) (known_by new) c.view_of.result told.viewed)
