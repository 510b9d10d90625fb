use Rattle.rules_words.proofs.OneCut.{lines_are_cut_once as law}
use Rattle.rules_words.proofs.laws.lines_are_cut_once.Goals as goal

pub returns : goal.returns
returns c = law
