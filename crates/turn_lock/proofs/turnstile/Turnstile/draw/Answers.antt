use Rattle.std.proofs.Common.{rules}
use Rattle.turn_lock.proofs.Keeps.{draws_one}
use Rattle.turn_lock.proofs.turnstile.Turnstile.draw.Goals as goal

pub fetch_add-requires : goal.fetch_add-requires
fetch_add-requires g c = (c.requires.table, search rules, draws_one g.T.Recorded.state g.T.Recorded.after g.T.Recorded.fits _ _ _ _ c.requires.ready.0 c.requires.ready.1)
