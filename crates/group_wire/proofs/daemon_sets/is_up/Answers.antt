use Rattle.std.proofs.Common.{◌∙◌}
use Rattle.place_core.specs.Placement.{numbers_of}
use Rattle.group_model_whole.proofs.Counted.{has_is_in}
use Rattle.group_wire.proofs.daemon_sets.is_up.Goals as goal

pub returns : goal.returns
returns c = c.has.ensures.member ∙ has_is_in (numbers_of c.args.up.now) c.args.daemon
