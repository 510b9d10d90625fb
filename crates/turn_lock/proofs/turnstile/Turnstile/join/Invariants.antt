use Rattle.turn_lock.proofs.turnstile.Turnstile.join.Given as goal

abbrev pub ghosts-join_as : goal.ghosts-join_as
ghosts-join_as g a = record { number = a.other.id }
