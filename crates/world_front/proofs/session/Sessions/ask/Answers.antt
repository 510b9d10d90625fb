use Rattle.std.proofs.Common.{arith}
use Rattle.std.proofs.lemmas.Grind.{elements}
use Rattle.world_front.proofs.session.Sessions.ask.Goals as goal

pub index_mut-session-requires : goal.index_mut-session-requires
index_mut-session-requires c = grind (arith, elements)

pub overflow_add-session : goal.overflow_add-session
overflow_add-session c = grind (arith, elements)

pub returns : goal.returns
returns c = grind (arith, elements)
