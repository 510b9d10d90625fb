use Rattle.world_core.proofs.Worlds.{decided_is_one_list, audit_grows, answers_stand}
use Rattle.world_laws.proofs.laws.decided_is_one_list.Goals as goal

pub returns : goal.returns
returns c = record { one = decided_is_one_list; grows = audit_grows; stand = answers_stand }
