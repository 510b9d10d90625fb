use Rattle.std.proofs.Common.{sym, subst, arith}
use Rattle.group_messages.specs.Waiting.{KnowsWaiting}
use Rattle.group_messages.proofs.Known.{knows_still}
use Rattle.std.proofs.lemmas.Grind.{common_steps}
use Rattle.group_messages.proofs.queue.Queue.push_back.Goals as goal

pub invariant_of-self-in_err-push_back : goal.invariant_of-self-in_err-push_back
invariant_of-self-in_err-push_back c =
    subst (λ l. KnowsWaiting l c.insert.new.self) (sym c.in_err-push_back.ensures.items)
    (knows_still c.self.inside.requests.items c.id.result c.self.inside.seen c.insert.new.self c.self.invariant (λ q. c.in_ok-insert.ensures.updates.0 q))

pub invariant_of-self-2 : goal.invariant_of-self-2
invariant_of-self-2 c = grind (arith, common_steps)
