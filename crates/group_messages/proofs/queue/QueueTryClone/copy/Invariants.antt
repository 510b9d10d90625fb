use Rattle.std.proofs.Common.{◌≡◌, map}
use Rattle.group_messages.proofs.queue.QueueTryClone.copy.Given as goal

abbrev pub invariant-loop-request : goal.invariant-loop-request
invariant-loop-request l = l.queue ≡ map (λ r. r.now) l.yielded
