use Rattle.cap_text.proofs.Once.{at_most_one}
use Rattle.cap_text.proofs.parser.spells_at_most_one.Goals as goal

pub returns : goal.returns
returns c = at_most_one
