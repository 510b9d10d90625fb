use Rattle.std.proofs.Common.{arith}
use Rattle.std.proofs.lemmas.Grind.{elements}
use Rattle.world_front.proofs.session.Sessions.find.Goals as goal

pub returns-in-None-clause-refused : goal.returns-in-None-clause-refused
returns-in-None-clause-refused c = grind (arith, elements)

pub returns-then-session-clause-refused : goal.returns-then-session-clause-refused
returns-then-session-clause-refused c = grind (arith, elements)

pub returns-else-session-clause-found : goal.returns-else-session-clause-found
returns-else-session-clause-found c = grind (arith, elements)

pub returns-else-session-clause-refused : goal.returns-else-session-clause-refused
returns-else-session-clause-refused c = grind (arith, elements)
