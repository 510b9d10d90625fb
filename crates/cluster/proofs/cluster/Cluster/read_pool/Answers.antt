use Rattle.std.proofs.Common.{refl}
use Rattle.published_map.specs.Answers.{SaysOf}
use Rattle.cluster.proofs.PoolsRead.{read_pass, has_answered}
use Rattle.cluster.proofs.cluster.Cluster.read_pool.Goals as goal

pub returns-clause-pass : goal.returns-clause-pass
returns-clause-pass c = read_pass c.args.self.now c.args.pass.now _ c.requires refl refl (SaysOf c.args.pool.now) c.view.result c.view.ensures

pub returns-clause-read : goal.returns-clause-read
returns-clause-read c = has_answered c.args.self.now c.args.pool.now c.args.pass.now _ c.view.result c.requires refl refl c.view.ensures
