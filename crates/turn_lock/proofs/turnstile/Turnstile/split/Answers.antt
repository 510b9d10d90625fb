use Rattle.std.proofs.Common.{rules}
use Rattle.turn_lock.proofs.Lists.{own_none}
use Rattle.turn_lock.proofs.turnstile.Turnstile.split.Goals as goal

pub returns-clause-own : goal.returns-clause-own
returns-clause-own g c = own_none _ _ _ _ c.settle.ensures.seat.1 (search rules) c.settle.ensures.own
