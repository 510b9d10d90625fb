use Rattle.world_laws.proofs.AcceptedLaws.{accepted_has_numbers, accepted_holds, accepted_answers}
use Rattle.world_laws.proofs.laws.accepted_have_numbers.Goals as goal

pub returns : goal.returns
returns c = record { numbers = accepted_has_numbers; holds = accepted_holds; answers = accepted_answers }
