use Rattle.std.proofs.Common.{[]}
use Rattle.turn_lock.proofs.turnstile.Turnstile.settle.Given as goal

abbrev pub ghosts-settle_as : goal.ghosts-settle_as
ghosts-settle_as g a = record { firsts = []; ticket = 0; by = a.token.now.id; adds = [] }
