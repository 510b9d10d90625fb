use Rattle.closed_laws.proofs.SoundRecovery.{kick_recovers, losses_lose_all}
use Rattle.closed_laws.proofs.laws.a_kick_recovers.Goals as goal

pub returns : goal.returns
returns c = record { recovers = kick_recovers; loses = losses_lose_all }
