use Rattle.std.proofs.Common.{refl}
use Rattle.peer_core.specs.Fittings.{becomes}
use Rattle.peer_core.proofs.Fittings.{whole_stays}
use Rattle.peer_core.proofs.fitting.Fitting.whole.Goals as goal

pub returns-clause-new : goal.returns-clause-new
unfolding becomes
returns-clause-new c = whole_stays c.args.log.now c.len.result _ c.len.ensures refl
