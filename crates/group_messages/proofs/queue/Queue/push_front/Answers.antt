use Rattle.std.proofs.Common.{sym, subst}
use Rattle.group_messages.specs.Waiting.{KnowsWaiting}
use Rattle.group_messages.proofs.Known.{knows_still}
use Rattle.group_messages.proofs.queue.Queue.push_front.Goals as goal

pub invariant_of-self-in_err-push_front : goal.invariant_of-self-in_err-push_front
invariant_of-self-in_err-push_front c =
    subst (λ l. KnowsWaiting l c.insert.new.self) (sym c.in_err-push_front.ensures.items)
    (knows_still c.self.inside.requests.items c.id.result c.self.inside.seen c.insert.new.self c.self.invariant (λ q. c.in_ok-insert.ensures.updates.0 q))
