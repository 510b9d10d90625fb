use Rattle.group_model.proofs.Statements.{quiet_opening, serves_in_time}
use Rattle.group_model.proofs.laws.one_interval_serves_all.Goals as goal

pub returns : goal.returns
returns c = record { serves = serves_in_time; opening = quiet_opening }
