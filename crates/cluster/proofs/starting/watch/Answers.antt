use Rattle.std.proofs.Common.{refl}
use Rattle.cluster.proofs.Following.{follows_first}
use Rattle.cluster.proofs.starting.watch.Goals as goal

pub returns-clause-follows : goal.returns-clause-follows
returns-clause-follows g c share fresh = follows_first c.args.cluster.now share _ fresh refl
