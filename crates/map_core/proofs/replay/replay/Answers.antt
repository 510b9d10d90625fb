use Rattle.std.proofs.Common.{arith}
use Rattle.map_core.proofs.OnePool.{some_at_end, on_err}
use Rattle.std.proofs.lemmas.Grind.{common_steps}
use Rattle.map_core.proofs.replay.replay.Goals as goal

pub returns-in_err-found-clause-err : goal.returns-in_err-found-clause-err
returns-in_err-found-clause-err c =
    on_err c.from_residual.result (some_at_end c.args.name.now c.args.commands.now c.loop-command.command-index c.command-item.result c.loop-command.found (omega arith) c.command-item.is c.loop-command.invariant c.in_err-found.ensures.err)

pub loop-command-preserved : goal.loop-command-preserved
loop-command-preserved c = grind (arith, common_steps)

pub returns-clause-ok : goal.returns-clause-ok
returns-clause-ok c = grind (arith, common_steps)
