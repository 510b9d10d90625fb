use Rattle.std.proofs.Common.{rules, Some}
use Rattle.turn_lock.proofs.Lists.{held_alone}
use Rattle.turn_lock.proofs.turnstile.Turnstile.close.Goals as goal

pub exchange-requires : goal.exchange-requires
exchange-requires g c = let it = c.wait.ensures.found in (search rules, (Some it.value, held_alone _ _ _ it.seat))
