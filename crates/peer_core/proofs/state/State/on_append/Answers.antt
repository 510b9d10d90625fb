use Rattle.std.proofs.Common.{arith, rules}
use Rattle.peer_core.proofs.Finding.{own_decision, absent_in}
use Rattle.std.proofs.lemmas.Grind.{common_steps}
use Rattle.peer_core.proofs.state.State.on_append.Goals as goal

pub push-requires-then-is_next-2-clause-here : goal.push-requires-then-is_next-2-clause-here
push-requires-then-is_next-2-clause-here c = own_decision c.args.self.now.log c.args.request c.in_ok-decided.decided (search rules)

pub push-requires-then-is_next-2-clause-new : goal.push-requires-then-is_next-2-clause-new
push-requires-then-is_next-2-clause-new c = absent_in c.args.self.now.log c.args.request c.in_ok-decided.decided (search rules) (search rules)

pub returns-clause-ok : goal.returns-clause-ok
returns-clause-ok c = grind (arith, common_steps)
