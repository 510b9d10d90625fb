use Rattle.std.proofs.Common.{rules, ap, ◌∙◌, sym}
use Rattle.turn_lock.specs.declared.rule.Stage.TheVariants.{Waiting}
use Rattle.turn_lock.proofs.Keeps.{looks}
use Rattle.turn_lock.proofs.turnstile.Turnstile.look_as.Goals as goal

pub load-requires : goal.load-requires
load-requires g c = (c.requires.table, search rules, looks g.T.Recorded.state g.T.Recorded.after g.T.Recorded.fits _ _ _ _ _ _ _ c.requires.tale.1 c.requires.tale.0 (c.requires.ready.0 ∙ ap Waiting (sym c.requires.tale.2)) c.requires.ready.1)

pub returns-clause-found : goal.returns-clause-found
returns-clause-found g c = search rules
