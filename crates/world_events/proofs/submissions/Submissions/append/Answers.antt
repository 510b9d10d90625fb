use Rattle.std.proofs.Common.{arith}
use Rattle.std.proofs.lemmas.Grind.{common_steps}
use Rattle.world_events.proofs.submissions.Submissions.append.Goals as goal

pub push_copy-requires : goal.push_copy-requires
push_copy-requires c = grind (arith, common_steps)

pub returns-in-Err-clause-err : goal.returns-in-Err-clause-err
returns-in-Err-clause-err c = grind (arith, common_steps)

pub loop-request-preserved : goal.loop-request-preserved
loop-request-preserved c = grind (arith, common_steps)

pub returns-clause-ok : goal.returns-clause-ok
returns-clause-ok c = grind (arith, common_steps)
