use Rattle.std.proofs.Common.{◌++◌, ap, ◌∙◌, arith}
use Rattle.group_model.specs.Group.{announced, retransmit_primary, last_set}
use Rattle.group_core.proofs.Calls.{next_kicked}
use Rattle.std.proofs.lemmas.Grind.{common_steps}
use Rattle.group_core.proofs.group.Group.kick.Goals as goal

pub invariant_of-self-2 : goal.invariant_of-self-2
invariant_of-self-2 c =
    let again = c.in_ok-again.ensures ∙ ap (λ l. retransmit_primary l (last_set c.self.inside.state.sets)) c.as_slice.ensures.value in
    let two = c.in_ok-append.ensures.items ∙ ap (λ l. l ++ c.in_ok-again.again.items) c.in_ok-sent.ensures ∙ ap (λ l. announced c.self.inside.state.sets ++ l) again in
    let three = c.in_ok-append-2.ensures.items ∙ ap (λ l. l ++ c.in_ok-requests.requests.items) two ∙ ap (λ l. (announced c.self.inside.state.sets ++ retransmit_primary c.self.inside.state.copies.items (last_set c.self.inside.state.sets)) ++ l) c.in_ok-requests.ensures in
    (next_kicked c.self.invariant c.extend.new.self.sent (c.in_ok-extend.ensures.ok ∙ ap (λ l. c.self.inside.state.wire.sent ++ l) three)).whole

pub returns : goal.returns
returns c = grind (arith, common_steps)
