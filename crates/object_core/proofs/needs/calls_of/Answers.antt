use Rattle.std.proofs.Common.{arith}
use Rattle.object_core.proofs.CallList.{calls_of_step}
use Rattle.std.proofs.lemmas.Grind.{common_steps}
use Rattle.object_core.proofs.needs.calls_of.Goals as goal

pub loop-op-preserved : goal.loop-op-preserved
loop-op-preserved c =
    calls_of_step c.args.ops.now c.loop-op.op-index c.op-item.result _ _ (omega arith) c.op-item.is c.loop-op.invariant c.in_ok-push_call.ensures

pub returns : goal.returns
returns c = grind (arith, common_steps)
