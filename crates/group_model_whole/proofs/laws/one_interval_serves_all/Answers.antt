use Rattle.group_model_whole.proofs.QuietLaws.{quiet_opening}
use Rattle.group_model_whole.proofs.Statements.{serves_in_time}
use Rattle.group_model_whole.proofs.laws.one_interval_serves_all.Goals as goal

pub returns : goal.returns
returns c = record { serves = serves_in_time; opening = quiet_opening }
