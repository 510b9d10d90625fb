use Rattle.std.proofs.Common.{arith}
use Rattle.std.proofs.lemmas.Grind.{elements}
use Rattle.world_front.proofs.session.Sessions.renew.Goals as goal

pub returns-clause-ok : goal.returns-clause-ok
returns-clause-ok c = grind (arith, elements)

pub index_mut-session-requires : goal.index_mut-session-requires
index_mut-session-requires c = grind (arith, elements)
