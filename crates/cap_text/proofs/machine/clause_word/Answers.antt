use Rattle.std.proofs.Common.{rules}
use Rattle.cap_text.proofs.machine.clause_word.Goals as goal

pub returns-in-Network : goal.returns-in-Network
returns-in-Network g c = search rules
