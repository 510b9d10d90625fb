use Rattle.world_laws.proofs.ServiceLaws.{service_keeps_its_word, service_grows}
use Rattle.world_laws.proofs.laws.the_service_keeps_its_word.Goals as goal

pub returns : goal.returns
returns c = record { keeps = service_keeps_its_word; grows = service_grows }
