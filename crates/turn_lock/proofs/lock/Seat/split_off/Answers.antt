use Rattle.std.proofs.Common.{rules}
use Rattle.turn_lock.proofs.lock.Seat.split_off.Goals as goal

pub invariant_of-self : goal.invariant_of-self
invariant_of-self g c = search rules
