use Rattle.std.proofs.Common.{sym, ◌∙◌}
use Rattle.share_core.proofs.InPools.{share_so, so_share}
use Rattle.share_core.proofs.pools.share_in.Goals as goal

pub returns : goal.returns
returns c = (
  λ yes. share_so c.args.pools.now c.args.ones.now.grants c.args.others.now.grants c.args.one.now c.args.other.now (sym c.some_reach_in.ensures ∙ yes),
  λ shared. c.some_reach_in.ensures ∙ so_share c.args.pools.now c.args.ones.now.grants c.args.others.now.grants c.args.one.now c.args.other.now shared,
)
