use Rattle.world_laws.proofs.Listings.{pieces_are_the_namespace, pieces_answer_the_namespace}
use Rattle.world_laws.proofs.laws.pieces_are_the_namespace.Goals as goal

pub returns : goal.returns
returns c = record { names = pieces_are_the_namespace; answer = pieces_answer_the_namespace }
