use Rattle.std.proofs.Common.{option_copied, ap, sym, ◌∙◌}
use Rattle.rules_core.proofs.checking.each_finding.Goals as goal

pub returns-in-None : goal.returns-in-None
returns-in-None c = (c.in-Some.rights.now, sym c.read_rights.ensures ∙ ap option_copied c.in-Some.is, rw c.in-None.is at c.in_ok-breach.ensures)

pub returns-in-Some-2 : goal.returns-in-Some-2
returns-in-Some-2 c = (c.in-Some.rights.now, sym c.read_rights.ensures ∙ ap option_copied c.in-Some.is, rw c.in-Some-2.is at c.in_ok-breach.ensures)
