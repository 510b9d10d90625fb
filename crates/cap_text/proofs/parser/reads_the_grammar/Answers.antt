use Rattle.cap_text.proofs.ReadTexts.{reads_the_grammar as law}
use Rattle.cap_text.proofs.parser.reads_the_grammar.Goals as goal

pub returns : goal.returns
returns c = law
