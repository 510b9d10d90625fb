use Rattle.std.proofs.Common.{sym, ◌∙◌}
use Rattle.std.proofs.lemmas.Bool.{false≢true}
use Rattle.rules_core.proofs.NeverSteps.{shared_in_none}
use Rattle.rules_core.proofs.targets.meet.Goals as goal

pub returns-in-Some : goal.returns-in-Some
returns-in-Some c = rw c.in-Some.is
    (λ none. shared_in_none c.in-Some.pools.now c.args.ones.now.grants c.args.others.now.grants c.args.one.now c.args.other.now (λ shared. false≢true (sym none ∙ c.share_in.ensures.1 shared)))
