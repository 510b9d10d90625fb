use Rattle.std.proofs.Common.{◌≡◌, ◌<◌, ap, sym, ◌∙◌, subst, length, false, arith}
use Rattle.std.specs.Prelude.{Some, slice_get}
use Rattle.entry_core.specs.Log.{is_in}
use Rattle.place_core.specs.Placement.{numbers_of}
use Rattle.group_model.specs.Reached.{IsReached}
use Rattle.group_core.proofs.Calls.{get_in, next_answered, whole_dropped, stepped}
use Rattle.group_core.proofs.Lowering.{delivery_lowers, drop_lowers, found_lowers}
use Rattle.std.proofs.lemmas.Grind.{elements}
use Rattle.group_core.proofs.group.Group.deliver.Goals as goal

pub invariant_of-self : goal.invariant_of-self
invariant_of-self c =
    let here : slice_get c.self.inside.state.wire.sent c.args.k ≡ Some c.in-Some.message.now = ap (λ l. slice_get l c.args.k) (sym c.as_slice.ensures) ∙ sym c.in-Some.ensures in
    (next_answered c.self.invariant c.args.k c.in-Some.message.now c.reach_client.new.wire.sent c.reach_client.new.ledger.requests c.reach_client.new.ledger.answers here c.in-Client.is
    c.in_ok-reach_client-in-Client.ensures.wire_ok c.in_ok-reach_client-in-Client.ensures.requests_ok (c.in_ok-reach_client-in-Client.ensures.answers_ok c.in-Some.message.now here)).whole

pub returns-in_ok-reach_client-in-Client-clause-steps : goal.returns-in_ok-reach_client-in-Client-clause-steps
returns-in_ok-reach_client-in-Client-clause-steps c =
    let here : slice_get c.self.inside.state.wire.sent c.args.k ≡ Some c.in-Some.message.now = ap (λ l. slice_get l c.args.k) (sym c.as_slice.ensures) ∙ sym c.in-Some.ensures in
    stepped c.self.view_is (next_answered c.self.invariant c.args.k c.in-Some.message.now c.reach_client.new.wire.sent c.reach_client.new.ledger.requests c.reach_client.new.ledger.answers here c.in-Client.is
    c.in_ok-reach_client-in-Client.ensures.wire_ok c.in_ok-reach_client-in-Client.ensures.requests_ok (c.in_ok-reach_client-in-Client.ensures.answers_ok c.in-Some.message.now here))

pub returns-in_ok-reach_client-in-Client-clause-delivered : goal.returns-in_ok-reach_client-in-Client-clause-delivered
returns-in_ok-reach_client-in-Client-clause-delivered c =
    let here : slice_get c.self.inside.state.wire.sent c.args.k ≡ Some c.in-Some.message.now = ap (λ l. slice_get l c.args.k) (sym c.as_slice.ensures) ∙ sym c.in-Some.ensures in
    delivery_lowers _ _ c.args.k (subst IsReached c.self.view_is c.self.invariant.reached)
    (stepped c.self.view_is (next_answered c.self.invariant c.args.k c.in-Some.message.now c.reach_client.new.wire.sent c.reach_client.new.ledger.requests c.reach_client.new.ledger.answers here c.in-Client.is
    c.in_ok-reach_client-in-Client.ensures.wire_ok c.in_ok-reach_client-in-Client.ensures.requests_ok (c.in_ok-reach_client-in-Client.ensures.answers_ok c.in-Some.message.now here)))

pub remove-requires : goal.remove-requires
remove-requires c =
    let here : slice_get c.self.inside.state.wire.sent c.args.k ≡ Some c.in-Some.message.now = ap (λ l. slice_get l c.args.k) (sym c.as_slice.ensures) ∙ sym c.in-Some.ensures in
    get_in c.self.inside.state.wire.sent c.args.k c.in-Some.message.now here

pub invariant_of-self-then-not-is_up : goal.invariant_of-self-then-not-is_up
invariant_of-self-then-not-is_up c =
    let here : slice_get c.self.inside.state.wire.sent c.args.k ≡ Some c.in-Some.message.now = ap (λ l. slice_get l c.args.k) (sym c.as_slice.ensures) ∙ sym c.in-Some.ensures in
    let down : is_in (numbers_of c.self.inside.state.up) c.in-Osd.daemon ≡ false = sym c.is_up.ensures ∙ c.if-not-is_up.true in
    whole_dropped c.self.invariant c.args.k c.in-Osd.daemon c.in-Some.message.now c.remove.new.self.sent here c.in-Osd.is down c.remove.ensures

pub returns-then-not-is_up-clause-dropped : goal.returns-then-not-is_up-clause-dropped
returns-then-not-is_up-clause-dropped c = λ _. (
    let here : slice_get c.self.inside.state.wire.sent c.args.k ≡ Some c.in-Some.message.now = ap (λ l. slice_get l c.args.k) (sym c.as_slice.ensures) ∙ sym c.in-Some.ensures in
    let down : is_in (numbers_of c.self.inside.state.up) c.in-Osd.daemon ≡ false = sym c.is_up.ensures ∙ c.if-not-is_up.true in
    drop_lowers c.self.view_is c.self.invariant c.args.k c.in-Osd.daemon c.in-Some.message.now c.remove.new.self.sent here c.in-Osd.is down c.remove.ensures)

pub returns-in_ok-reach_daemon-in-Osd-clause-delivered : goal.returns-in_ok-reach_daemon-in-Osd-clause-delivered
returns-in_ok-reach_daemon-in-Osd-clause-delivered c =
    let here : slice_get c.self.inside.state.wire.sent c.args.k ≡ Some c.in-Some.message.now = ap (λ l. slice_get l c.args.k) (sym c.as_slice.ensures) ∙ sym c.in-Some.ensures in
    found_lowers c.args.self.now c.reach_daemon.new.self c.args.k c.in-Some.message.now (subst IsReached c.self.view_is c.self.invariant.reached)
    (subst (λ v. slice_get v.wire c.args.k ≡ Some c.in-Some.message.now) c.self.view_is here) c.in_ok-reach_daemon-in-Osd.ensures.ok

pub reach_daemon-requires-clause-here : goal.reach_daemon-requires-clause-here
reach_daemon-requires-clause-here c =
    let here : slice_get c.self.inside.state.wire.sent c.args.k ≡ Some c.in-Some.message.now = ap (λ l. slice_get l c.args.k) (sym c.as_slice.ensures) ∙ sym c.in-Some.ensures in
    subst (λ v. c.args.k < length v.wire) c.self.view_is (get_in c.self.inside.state.wire.sent c.args.k c.in-Some.message.now here)

pub reach_client-requires : goal.reach_client-requires
reach_client-requires c = grind (arith, elements)
