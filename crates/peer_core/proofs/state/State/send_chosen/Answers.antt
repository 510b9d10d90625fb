use Rattle.std.proofs.Common.{◌∙◌}
use Rattle.peer_core.specs.Fittings.{becomes}
use Rattle.peer_core.proofs.Installs.{sent_chosen}
use Rattle.peer_core.proofs.state.State.send_chosen.Goals as goal

pub returns-clause-sent : goal.returns-clause-sent
returns-clause-sent c = λ informed is.
    sent_chosen c.args.self.now informed (becomes c.args.fitting.now) c.as_slice.result.now c.args.sent.now c.send_install.new.sent c.new.result c.new.ensures (c.as_slice.ensures ∙ c.in_ok-common.ensures informed is) c.in_ok-send_install.ensures
