use Rattle.gate_calls.proofs.Usable.{usable_is}
use Rattle.gate_calls.proofs.limited.is_usable.Goals as goal

pub returns : goal.returns
returns c = usable_is c.first_failure.result c.is_none.result c.args.grant.now c.args.target.now c.args.needs.now c.requires c.first_failure.ensures c.is_none.ensures
