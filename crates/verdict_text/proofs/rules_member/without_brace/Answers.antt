use Rattle.verdict_text.proofs.Pieces.{no_brace_stripped}
use Rattle.verdict_text.proofs.rules_member.without_brace.Goals as goal

pub returns-in-None : goal.returns-in-None
returns-in-None c = no_brace_stripped c.strip_prefix.result c.args.line.now c.strip_prefix.ensures.cases c.in-None.is
