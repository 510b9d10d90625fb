use Rattle.rules_core.proofs.targets.common_target.Goals as goal

pub returns-in-None : goal.returns-in-None
returns-in-None c = rw c.in-None.is c.common_anywhere.ensures
