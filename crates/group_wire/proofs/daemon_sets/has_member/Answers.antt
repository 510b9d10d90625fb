use Rattle.std.proofs.Common.{◌∙◌}
use Rattle.group_model_whole.proofs.Counted.{has_is_in}
use Rattle.group_wire.proofs.daemon_sets.has_member.Goals as goal

pub returns : goal.returns
returns c = c.has.ensures ∙ has_is_in c.args.set.now c.args.daemon
