use Rattle.std.proofs.Common.{subst}
use Rattle.share_core.specs.Sharing.{IsExampleIn}
use Rattle.share_core.proofs.InPools.{nothing_in}
use Rattle.share_text.specs.Kinds.{one_touch, other_touch}
use Rattle.share_text.proofs.tenants.told_so_in.Goals as goal

pub returns-in-None : goal.returns-in-None
returns-in-None c =
    let ones = c.args.one.now.ticket.now.grants in
    let others = c.args.other.now.ticket.now.grants in
    absurd (nothing_in c.args.pools.now ones others (one_touch c.args.kind) (other_touch c.args.kind)
    (subst (IsExampleIn c.args.pools.now ones (one_touch c.args.kind) others (other_touch c.args.kind)) c.in-None.is c.in_ok-example_so.ensures) c.requires)
