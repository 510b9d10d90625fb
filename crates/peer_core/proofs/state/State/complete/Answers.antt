use Rattle.std.proofs.Common.{rules}
use Rattle.group_messages.specs.Decided.{last}
use Rattle.peer_core.proofs.Counting.{completes}
use Rattle.peer_core.proofs.state.State.complete.Goals as goal

pub returns-clause-ok : goal.returns-clause-ok
returns-clause-ok c = completes c.args.self.now (last c.args.self.now.log) c.reply_to_last.new.sent c.serve.result c.serve.new.self (search rules) (search rules) (search rules)
