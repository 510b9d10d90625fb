use Rattle.script_text.proofs.ReadBack.{lines_are_the_text as law}
use Rattle.script_text.proofs.laws.lines_are_the_text.Goals as goal

pub returns : goal.returns
returns c = law
