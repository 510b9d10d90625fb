use Rattle.std.proofs.Common.{rules}
use Rattle.std.specs.Prelude.{None}
use Rattle.peer_core.specs.Types.{Active, Copy}
use Rattle.peer_core.proofs.Serving.{alone_copy, alone_sent}
use Rattle.peer_core.proofs.state.State.install_alone.Goals as goal

pub returns-clause-copy : goal.returns-clause-copy
returns-clause-copy c =
    let begun : Copy = record c.args.self.now { base = c.args.self.now.promise; log = c.args.log; role = Active None } in
    alone_copy begun c.become_active.new.self c.requires (search rules)

pub returns-clause-sent : goal.returns-clause-sent
returns-clause-sent c =
    let begun : Copy = record c.args.self.now { base = c.args.self.now.promise; log = c.args.log; role = Active None } in
    alone_sent begun c.args.sent c.decide_each.new.sent c.requires (search rules)
