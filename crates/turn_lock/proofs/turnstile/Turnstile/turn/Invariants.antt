use Rattle.std.proofs.Common.{[], ◌∷◌}
use Rattle.turn_lock.proofs.turnstile.Turnstile.turn.Given as goal

abbrev pub ghosts-call_next : goal.ghosts-call_next
ghosts-call_next g a = record { firsts = []; ticket = 0; by = a.token.now.id; adds = g.St.Step.entry a.before.now.value (g.T.Recorded.state a.found.now.value) a.answer.now ∷ [] }
