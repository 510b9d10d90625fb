use Rattle.std.proofs.Common.{refl}
use Rattle.published_map.proofs.Knowing.{seen_more}
use Rattle.cluster.specs.Asks.{known_by}
use Rattle.cluster.proofs.Held.{pass_looked}
use Rattle.cluster.proofs.pass.Pass.learn.Goals as goal

pub returns-in-Ok-clause-pass : goal.returns-in-Ok-clause-pass
returns-in-Ok-clause-pass c w p = let t = c.in-Ok.ensures.ok in
    pass_looked w c.args.self.now _ p (refl, refl) (seen_more t.0 (known_by c.args.self.now) _ t.1 t.2)

pub returns-in-Err-clause-pass : goal.returns-in-Err-clause-pass
returns-in-Err-clause-pass c w p = pass_looked w c.args.self.now _ p (refl, refl) c.in-Err.ensures.own
