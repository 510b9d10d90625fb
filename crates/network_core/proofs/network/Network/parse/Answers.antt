use Rattle.std.proofs.Common.{arith}
use Rattle.std.proofs.lemmas.Grind.{common_steps}
use Rattle.network_core.proofs.Splits.{without_slash, without_length, without_address}
use Rattle.network_core.proofs.network.Network.parse.Goals as goal

pub returns-in_default : goal.returns-in_default
returns-in_default c = without_slash c.args.text.now c.in_default.ensures

pub returns-in_default-read_length : goal.returns-in_default-read_length
returns-in_default-read_length c =
    let at = c.in-Some.ensures in
    without_length c.args.text.now _ c.in-Some.slash c.in_default-read_length.ensures (grind (arith, common_steps)) at.0 at.1 at.2

pub returns-in_default-parse : goal.returns-in_default-parse
returns-in_default-parse c =
    let at = c.in-Some.ensures in
    without_address c.args.text.now _ c.in-Some.slash c.in_default-parse.ensures (grind (arith, common_steps)) at.0 at.1 at.2
