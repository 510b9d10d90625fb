use Rattle.turn_lock.proofs.turnstile.Turnstile.split_off.Given as goal

abbrev pub ghosts-split_as : goal.ghosts-split_as
ghosts-split_as g a = record { number = a.part }
