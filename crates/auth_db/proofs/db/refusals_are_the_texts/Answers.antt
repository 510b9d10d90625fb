use Rattle.auth_db.proofs.Told.{refusals_are_the_texts as law}
use Rattle.auth_db.proofs.db.refusals_are_the_texts.Goals as goal

pub returns : goal.returns
returns c = law
