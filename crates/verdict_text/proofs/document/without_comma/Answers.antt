use Rattle.verdict_text.proofs.Pieces.{nothing_stripped}
use Rattle.verdict_text.proofs.document.without_comma.Goals as goal

pub returns-in-None : goal.returns-in-None
returns-in-None c = nothing_stripped c.strip_prefix.result c.args.pieces.now c.strip_prefix.ensures.cases c.in-None.is
