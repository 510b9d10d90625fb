use Rattle.std.proofs.Common.{◌≡◌, ◌<◌, ◌≤◌, ap, sym, ◌∙◌, subst, length, max, true, refl, arith}
use Rattle.std.specs.Prelude.{Some, slice_get, slice_set}
use Rattle.entry_core.specs.Log.{is_in}
use Rattle.group_model.specs.Types.{Osd}
use Rattle.group_core.proofs.Calls.{get_below, get_or_some, next_swallowed, next_heard, stepped}
use Rattle.group_core.proofs.Sends.{sent_few}
use Rattle.std.proofs.lemmas.Grind.{common_steps}
use Rattle.group_core.proofs.group.Group.reach_daemon.Goals as goal

pub invariant_of-self : goal.invariant_of-self
invariant_of-self c =
    let lt : c.args.k < length c.self.inside.state.wire.sent = subst (λ v. c.args.k < length v.wire) (sym c.self.view_is) c.requires.here in
    let m = get_below c.self.inside.state.wire.sent c.args.k lt in
    let to : m.item.to ≡ Osd c.args.daemon = c.requires.to m.item (subst (λ v. slice_get v.wire c.args.k ≡ Some m.item) c.self.view_is m.is) in
    let past : length c.self.inside.state.copies.items ≤ c.args.daemon = subst (λ l. length l ≤ c.args.daemon) c.as_slice.ensures.value c.if-place-as_slice.true in
    (next_swallowed c.self.invariant c.args.k c.args.daemon m.item c.remove.new.self.sent m.is to (subst (λ v. is_in v.up c.args.daemon ≡ true) (sym c.self.view_is) c.requires.up) past c.remove.ensures).whole

pub returns-then-place-as_slice-clause-ok : goal.returns-then-place-as_slice-clause-ok
returns-then-place-as_slice-clause-ok c =
    let lt : c.args.k < length c.self.inside.state.wire.sent = subst (λ v. c.args.k < length v.wire) (sym c.self.view_is) c.requires.here in
    let m = get_below c.self.inside.state.wire.sent c.args.k lt in
    let to : m.item.to ≡ Osd c.args.daemon = c.requires.to m.item (subst (λ v. slice_get v.wire c.args.k ≡ Some m.item) c.self.view_is m.is) in
    let past : length c.self.inside.state.copies.items ≤ c.args.daemon = subst (λ l. length l ≤ c.args.daemon) c.as_slice.ensures.value c.if-place-as_slice.true in
    (stepped c.self.view_is (next_swallowed c.self.invariant c.args.k c.args.daemon m.item c.remove.new.self.sent m.is to (subst (λ v. is_in v.up c.args.daemon ≡ true) (sym c.self.view_is) c.requires.up) past c.remove.ensures)).1

pub reach-requires-clause-few : goal.reach-requires-clause-few
reach-requires-clause-few c = λ m here. (
    let lt : c.args.daemon < length c.self.inside.state.copies.items = subst (λ l. c.args.daemon < length l) c.as_slice.ensures.value c.if-place-as_slice.false in
    let found : slice_get c.self.inside.state.copies.items c.args.daemon ≡ Some c.index_mut-copy.result.now = get_or_some c.self.inside.state.copies.items c.args.daemon c.index_mut-copy.result.now lt ∙ ap (λ v. Some v) (sym c.index_mut-copy.ensures.value) in
    sent_few _ c.self.invariant.reached c.args.k c.args.daemon m c.index_mut-copy.result.now here (c.requires.to m (subst (λ v. slice_get v.wire c.args.k ≡ Some m) c.self.view_is here)) (subst (λ v. is_in v.up c.args.daemon ≡ true) (sym c.self.view_is) c.requires.up) found)

pub invariant_of-self-2 : goal.invariant_of-self-2
invariant_of-self-2 c =
    let lt : c.args.k < length c.self.inside.state.wire.sent = subst (λ v. c.args.k < length v.wire) (sym c.self.view_is) c.requires.here in
    let m = get_below c.self.inside.state.wire.sent c.args.k lt in
    let to : m.item.to ≡ Osd c.args.daemon = c.requires.to m.item (subst (λ v. slice_get v.wire c.args.k ≡ Some m.item) c.self.view_is m.is) in
    let below : c.args.daemon < length c.self.inside.state.copies.items = subst (λ l. c.args.daemon < length l) c.as_slice.ensures.value c.if-place-as_slice.false in
    let found : slice_get c.self.inside.state.copies.items c.args.daemon ≡ Some c.index_mut-copy.result.now = get_or_some c.self.inside.state.copies.items c.args.daemon c.index_mut-copy.result.now below ∙ ap (λ v. Some v) (sym c.index_mut-copy.ensures.value) in
    (next_heard c.self.invariant c.args.k c.args.daemon m.item c.index_mut-copy.result.now c.reach.new.copy c.reach.new.wire.sent (slice_set c.self.inside.state.copies.items c.args.daemon c.reach.new.copy) c.max-self-inside.result m.is to
    (subst (λ v. is_in v.up c.args.daemon ≡ true) (sym c.self.view_is) c.requires.up) found (c.in_ok-reach.ensures.copy_ok m.item m.is) (c.in_ok-reach.ensures.wire_ok m.item m.is) refl
    (c.max-self-inside.ensures ∙ ap (λ l. max c.self.inside.state.decided (length l)) c.decided-shown.ensures)).whole

pub returns-clause-ok : goal.returns-clause-ok
returns-clause-ok c =
    let lt : c.args.k < length c.self.inside.state.wire.sent = subst (λ v. c.args.k < length v.wire) (sym c.self.view_is) c.requires.here in
    let m = get_below c.self.inside.state.wire.sent c.args.k lt in
    let to : m.item.to ≡ Osd c.args.daemon = c.requires.to m.item (subst (λ v. slice_get v.wire c.args.k ≡ Some m.item) c.self.view_is m.is) in
    let below : c.args.daemon < length c.self.inside.state.copies.items = subst (λ l. c.args.daemon < length l) c.as_slice.ensures.value c.if-place-as_slice.false in
    let found : slice_get c.self.inside.state.copies.items c.args.daemon ≡ Some c.index_mut-copy.result.now = get_or_some c.self.inside.state.copies.items c.args.daemon c.index_mut-copy.result.now below ∙ ap (λ v. Some v) (sym c.index_mut-copy.ensures.value) in
    (stepped c.self.view_is (next_heard c.self.invariant c.args.k c.args.daemon m.item c.index_mut-copy.result.now c.reach.new.copy c.reach.new.wire.sent (slice_set c.self.inside.state.copies.items c.args.daemon c.reach.new.copy) c.max-self-inside.result m.is to
    (subst (λ v. is_in v.up c.args.daemon ≡ true) (sym c.self.view_is) c.requires.up) found (c.in_ok-reach.ensures.copy_ok m.item m.is) (c.in_ok-reach.ensures.wire_ok m.item m.is) refl
    (c.max-self-inside.ensures ∙ ap (λ l. max c.self.inside.state.decided (length l)) c.decided-shown.ensures))).1

pub invariant_of-self-in_err-reach : goal.invariant_of-self-in_err-reach
invariant_of-self-in_err-reach c = grind (arith, common_steps)

pub returns-in_err-reach-clause-err : goal.returns-in_err-reach-clause-err
returns-in_err-reach-clause-err c = grind (arith, common_steps)
