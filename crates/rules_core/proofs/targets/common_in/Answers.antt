use Rattle.std.proofs.Common.{◌≡◌, false, sym, ◌∙◌, rules}
use Rattle.std.proofs.lemmas.Bool.{false≢true}
use Rattle.rules_core.proofs.NeverSteps.{met_in, shared_in_none}
use Rattle.rules_core.proofs.targets.common_in.Goals as goal

pub returns-then-not-share_in : goal.returns-then-not-share_in
returns-then-not-share_in c =
    let none : c.share_in.result ≡ false = search rules in
    shared_in_none c.args.pools.now c.args.ones.now.grants c.args.others.now.grants c.args.one.now c.args.other.now (λ shared. false≢true (sym none ∙ c.share_in.ensures.1 shared))

pub returns : goal.returns
returns c = met_in c.args.pools.now c.args.ones.now.grants c.args.others.now.grants c.args.one.now c.args.other.now c.in_ok-found.found c.in_ok-found.ensures
