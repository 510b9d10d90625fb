use Rattle.cap_text.proofs.ReadAnswers.{reads_nothing_else as law}
use Rattle.cap_text.proofs.parser.reads_nothing_else.Goals as goal

pub returns : goal.returns
returns c = law
