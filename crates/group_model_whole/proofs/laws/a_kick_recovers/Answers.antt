use Rattle.group_model_whole.proofs.RecoveryLaws.{all_lost, can_lose}
use Rattle.group_model_whole.proofs.RecoveryTests.{ready_from, ready_to}
use Rattle.group_model_whole.proofs.Statements.{recovers}
use Rattle.group_model_whole.proofs.laws.a_kick_recovers.Goals as goal

pub returns : goal.returns
returns c = record { recovers = recovers; lost = all_lost; loses = can_lose; ready = ready_from; unready = ready_to }
