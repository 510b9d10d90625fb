use Rattle.std.proofs.Common.{sym, ◌∙◌}
use Rattle.share_core.proofs.Shares.{share_so, so_share}
use Rattle.share_core.proofs.reaching.share.Goals as goal

pub returns : goal.returns
returns c = (
  λ yes. share_so c.args.ones.now.grants c.args.others.now.grants c.args.one.now c.args.other.now (sym c.some_reach.ensures ∙ yes),
  λ shared. c.some_reach.ensures ∙ so_share c.args.ones.now.grants c.args.others.now.grants c.args.one.now c.args.other.now shared,
)
