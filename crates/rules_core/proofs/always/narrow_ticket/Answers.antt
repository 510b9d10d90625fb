use Rattle.rules_core.proofs.NarrowSteps.{few_narrowed}
use Rattle.rules_core.proofs.always.narrow_ticket.Goals as goal

pub from_grants-requires : goal.from_grants-requires
from_grants-requires c =
    few_narrowed c.args.pool.now c.args.ticket.now.grants c.grants.result.now c.in_ok-kept.kept.items c.grants.ensures.grants c.grants.ensures.few c.in_ok-kept.ensures
