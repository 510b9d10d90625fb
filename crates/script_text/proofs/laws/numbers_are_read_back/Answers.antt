use Rattle.script_text.proofs.ReadBack.{numbers_are_read_back as law}
use Rattle.script_text.proofs.laws.numbers_are_read_back.Goals as goal

pub returns : goal.returns
returns c = law
