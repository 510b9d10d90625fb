use Rattle.std.proofs.Common.{[], ◌∷◌}
use Rattle.turn_lock.proofs.turnstile.Turnstile.look.Given as goal

abbrev pub ghosts-look_as : goal.ghosts-look_as
ghosts-look_as g a = record { firsts = g.T.Recorded.state a.self.now.table.shared.key.value ∷ []; ticket = a.ticket; by = a.token.now.id; adds = [] }
