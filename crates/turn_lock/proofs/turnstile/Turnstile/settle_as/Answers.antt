use Rattle.std.proofs.Common.{rules}
use Rattle.turn_lock.proofs.Keeps.{settles}
use Rattle.turn_lock.proofs.turnstile.Turnstile.settle_as.Goals as goal

pub load-requires : goal.load-requires
load-requires g c = (c.requires.table, search rules, settles g.T.Recorded.state g.T.Recorded.after g.T.Recorded.fits _ _ _ _ _ c.requires.tale c.requires.ready)
