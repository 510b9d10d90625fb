use Rattle.cap_text.proofs.FirstFaults.{tells_the_first_fault as law}
use Rattle.cap_text.proofs.parser.tells_the_first_fault.Goals as goal

pub returns : goal.returns
returns c = law
