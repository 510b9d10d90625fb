use Rattle.std.proofs.Common.{rules}
use Rattle.turn_lock.proofs.Keeps.{splits}
use Rattle.turn_lock.proofs.turnstile.Turnstile.split_as.Goals as goal

pub split_seat-requires : goal.split_seat-requires
split_seat-requires g c = (c.requires.table, search rules, splits g.T.Recorded.state g.T.Recorded.after g.T.Recorded.fits _ _ _ _ c.requires.ready.0 c.requires.ready.1)
