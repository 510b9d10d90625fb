use Rattle.group_model.proofs.Losses.{all_lost, can_lose}
use Rattle.group_model.proofs.Recovery.{ready_from, ready_to, recovers}
use Rattle.group_model.proofs.laws.a_kick_recovers.Goals as goal

pub returns : goal.returns
returns c = record { recovers = recovers; lost = all_lost; loses = can_lose; ready = ready_from; unready = ready_to }
