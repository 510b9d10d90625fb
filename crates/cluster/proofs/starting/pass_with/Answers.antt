use Rattle.std.proofs.Common.{rules}
use Rattle.cluster_locks.specs.Shares.{pass_share}
use Rattle.cluster.proofs.Begun.{fresh_numbers}
use Rattle.cluster.proofs.FirstPasses.{first_pass}
use Rattle.cluster.proofs.starting.pass_with.Goals as goal

pub returns-in-Ok-clause-pass : goal.returns-in-Ok-clause-pass
returns-in-Ok-clause-pass c =
    let own = c.requires.monitor in
    let none = c.new.ensures.items in (
      first_pass c.args.cluster.now c.args.monitor.now (record { seats = c.args.seats; reader = c.into_reader.result; sessions = c.new.result }) c.requires.begun c.requires.fresh own.0 own.1 c.requires.follows.0
          (search rules) none,
      fresh_numbers c.args.cluster.now (pass_share c.args.cluster.now.passes) c.args.seats c.requires.fresh,
      none,
    )
