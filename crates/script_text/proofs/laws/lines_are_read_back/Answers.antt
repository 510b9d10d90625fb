use Rattle.script_text.proofs.ReadBack.{lines_are_read_back as law}
use Rattle.script_text.proofs.laws.lines_are_read_back.Goals as goal

pub returns : goal.returns
returns c = law
