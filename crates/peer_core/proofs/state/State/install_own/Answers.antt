use Rattle.std.proofs.Common.{◌∙◌, ◌++◌, List, map, ap, sym}
use Rattle.peer_core.specs.Types.{Entry}
use Rattle.peer_core.specs.ActingSets.{others}
use Rattle.group_messages.specs.Beginnings.{common_of}
use Rattle.peer_core.specs.Copy.{install_from}
use Rattle.peer_core.proofs.Installs.{counts, install_copy, install_sent}
use Rattle.peer_core.proofs.state.State.install_own.Goals as goal

pub returns-clause-copy : goal.returns-clause-copy
returns-clause-copy c = λ informed is.
    install_copy c.args.self.now informed c.args.self.now.log c.new.result c.in_ok-common.common c.new.ensures
    (c.in_ok-common.ensures.common informed is ∙ ap (λ (l : List Entry). counts informed c.args.self.now.log l (others c.args.self.now)) c.whole.ensures.new) (sym c.is_alone.ensures ∙ c.if-is_alone.false)

pub returns-clause-sent : goal.returns-clause-sent
returns-clause-sent c = λ informed is.
    install_sent c.args.self.now informed c.args.self.now.log c.args.sent c.send_chosen.new.sent (sym c.is_alone.ensures ∙ c.if-is_alone.false)
    (c.in_ok-common.ensures.sent informed is
    ∙ ap (λ (l : List Entry). c.args.sent ++ map (λ m. install_from c.args.self.now l m (common_of informed c.args.self.now.log l m)) (others c.args.self.now)) c.whole.ensures.new)
