use Rattle.compare_core.proofs.BestCalls.{own_calls_for}
use Rattle.compare_core.proofs.calls.calls_for.Goals as goal

pub returns-in-Own : goal.returns-in-Own
returns-in-Own c = own_calls_for c.args.of c.args.grant.now c.args.old.now.grants c.registry.result c.in-Own.is c.registry.ensures.known c.registry.ensures.whole
