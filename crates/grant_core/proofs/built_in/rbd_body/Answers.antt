use Rattle.std.proofs.Common.{rules}
use Rattle.grant_core.proofs.built_in.rbd_body.Goals as goal

pub returns : goal.returns
returns c = search rules
