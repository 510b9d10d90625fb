use Rattle.std.proofs.Common.{arith, drop, sym, subst}
use Rattle.group_messages.specs.Waiting.{KnowsWaiting}
use Rattle.group_messages.proofs.Known.{knows_dropped}
use Rattle.std.proofs.lemmas.Grind.{common_steps}
use Rattle.group_messages.proofs.queue.Queue.skip.Goals as goal

pub invariant_of-self : goal.invariant_of-self
invariant_of-self c =
    subst (λ l. KnowsWaiting l c.loop.self-inside.seen) (sym c.loop.invariant.0)
    (subst (λ m. KnowsWaiting (drop c.loop.counter c.self.inside.requests.items) m) (sym c.loop.invariant.1) (knows_dropped c.loop.counter c.self.inside.requests.items c.self.inside.seen c.self.invariant))

pub loop-preserved : goal.loop-preserved
loop-preserved c = grind (arith, common_steps)
