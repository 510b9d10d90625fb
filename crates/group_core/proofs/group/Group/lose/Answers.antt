use Rattle.std.proofs.Common.{◌<◌, length, subst}
use Rattle.group_model.specs.Reached.{IsReached}
use Rattle.group_core.proofs.Calls.{next_lost, stepped}
use Rattle.group_core.proofs.Lowering.{loss_lowers}
use Rattle.group_core.proofs.group.Group.lose.Goals as goal

pub invariant_of-self : goal.invariant_of-self
invariant_of-self c =
    let lt : c.args.k < length c.self.inside.state.wire.sent = subst (λ l. c.args.k < length l) c.as_slice.ensures c.if-k-as_slice.false in
    (next_lost c.self.invariant c.args.k c.remove.new.self.sent lt c.remove.ensures).whole

pub returns-clause-steps : goal.returns-clause-steps
returns-clause-steps c =
    let lt : c.args.k < length c.self.inside.state.wire.sent = subst (λ l. c.args.k < length l) c.as_slice.ensures c.if-k-as_slice.false in
    stepped c.self.view_is (next_lost c.self.invariant c.args.k c.remove.new.self.sent lt c.remove.ensures)

pub returns-clause-lost : goal.returns-clause-lost
returns-clause-lost c =
    let lt : c.args.k < length c.self.inside.state.wire.sent = subst (λ l. c.args.k < length l) c.as_slice.ensures c.if-k-as_slice.false in
    loss_lowers _ _ c.args.k (subst IsReached c.self.view_is c.self.invariant.reached) (stepped c.self.view_is (next_lost c.self.invariant c.args.k c.remove.new.self.sent lt c.remove.ensures))
