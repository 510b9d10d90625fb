use Rattle.std.proofs.Common.{◌≡◌, drop}
use Rattle.group_messages.proofs.queue.Queue.skip.Given as goal

abbrev pub invariant-loop : goal.invariant-loop
invariant-loop l = (l.self-inside.requests.items ≡ drop l.counter l.initial.self-inside.requests.items) × (l.self-inside.seen ≡ l.initial.self-inside.seen)
