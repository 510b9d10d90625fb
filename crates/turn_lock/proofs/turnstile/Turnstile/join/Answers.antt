use Rattle.std.proofs.Common.{rules}
use Rattle.turn_lock.proofs.Lists.{own_kept}
use Rattle.turn_lock.proofs.turnstile.Turnstile.join.Goals as goal

pub returns-clause-own : goal.returns-clause-own
returns-clause-own g c = own_kept _ _ _ _ _ _ _ c.join_as.ensures.seat.1 c.settle.ensures.seat.1 c.requires.own (search rules) (search rules) c.settle.ensures.own
