use Rattle.std.proofs.lemmas.Bool.{false≢true}
use Rattle.log_core.proofs.Marking.{stands_nowhere}
use Rattle.log_core.proofs.marks.is_in.Goals as goal

pub returns-in-None : goal.returns-in-None
returns-in-None c = (λ no. absurd (false≢true no), λ has. absurd (stands_nowhere c.args.bytes.now c.args.mark.now c.in-None.ensures has))
