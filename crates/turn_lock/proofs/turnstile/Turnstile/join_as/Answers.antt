use Rattle.std.proofs.Common.{rules}
use Rattle.turn_lock.proofs.Keeps.{joins}
use Rattle.turn_lock.proofs.turnstile.Turnstile.join_as.Goals as goal

pub join_seat-requires : goal.join_seat-requires
join_seat-requires g c = (c.requires.table.0, c.requires.table.1, c.requires.ready.2, search rules, joins g.T.Recorded.state g.T.Recorded.after g.T.Recorded.fits _ _ _ _ _ _ c.requires.tale c.requires.ready.0 c.requires.ready.1)
