use Rattle.std.proofs.Common.{rules}
use Rattle.turn_lock.proofs.Keeps.{calls}
use Rattle.turn_lock.proofs.turnstile.Turnstile.call_next.Goals as goal

pub fetch_add-requires : goal.fetch_add-requires
fetch_add-requires g c = let r = c.requires.ready in
    (c.requires.table, search rules, calls g.T.Recorded.state g.T.Recorded.after g.T.Recorded.fits _ _ _ _ r.0 _ _ _ r.1 (search rules) c.requires.tale.0 c.requires.tale.1 r.2 r.3 r.4 c.requires.fits)
