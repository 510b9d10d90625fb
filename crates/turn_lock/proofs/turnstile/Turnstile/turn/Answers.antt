use Rattle.std.proofs.Common.{rules, Some, arith}
use Rattle.turn_lock.proofs.Lists.{held_alone}
use Rattle.std.proofs.lemmas.Grind.{common_steps}
use Rattle.turn_lock.proofs.turnstile.Turnstile.turn.Goals as goal

pub exchange-requires : goal.exchange-requires
exchange-requires g c = let it = c.wait.ensures.found in (search rules, (Some it.value, held_alone _ _ _ it.seat))

pub call_next-requires-clause-ready : goal.call_next-requires-clause-ready
call_next-requires-clause-ready g c = grind (arith, common_steps)

pub call_next-requires-clause-fits : goal.call_next-requires-clause-fits
call_next-requires-clause-fits g c = search rules

pub returns-clause-turned : goal.returns-clause-turned
returns-clause-turned g c = search rules
