use Rattle.std.proofs.Common.{◌≡◌, ◌<◌, ◌∙◌, sym, ap, subst, refl, length, true, false}
use Rattle.place_core.specs.Placement.{numbers_of}
use Rattle.group_model.specs.Group.{same_set, last_set}
use Rattle.group_model_whole.proofs.Sets.{set_is}
use Rattle.group_core.proofs.Calls.{next_same, next_begun, whole_up, stepped_up}
use Rattle.group_core.proofs.group.Group.new_interval.Goals as goal

pub invariant_of-self : goal.invariant_of-self
invariant_of-self c =
    let same : same_set c.args.acting (last_set c.self.inside.state.sets) ≡ true = ap (λ l. same_set c.args.acting l) (sym c.last_set.ensures) ∙ sym c.same_set.ensures ∙ c.if-same_set.true in
    whole_up (ap numbers_of c.change_up.ensures.up) (next_same c.self.invariant c.args.acting (numbers_of c.args.up) c.change_up.new.copies.items (set_is c.args.acting (rw (← c.as_slice-members.ensures.value) c.as_slice-members.ensures.few) (rw (← c.as_slice-members.ensures.value) c.as_slice-members.ensures.once)) same c.change_up.ensures.copies refl)

pub returns-then-same_set-clause-steps : goal.returns-then-same_set-clause-steps
returns-then-same_set-clause-steps c =
    let same : same_set c.args.acting (last_set c.self.inside.state.sets) ≡ true = ap (λ l. same_set c.args.acting l) (sym c.last_set.ensures) ∙ sym c.same_set.ensures ∙ c.if-same_set.true in
    stepped_up c.self.view_is (ap numbers_of c.change_up.ensures.up) (next_same c.self.invariant c.args.acting (numbers_of c.args.up) c.change_up.new.copies.items (set_is c.args.acting (rw (← c.as_slice-members.ensures.value) c.as_slice-members.ensures.few) (rw (← c.as_slice-members.ensures.value) c.as_slice-members.ensures.once)) same c.change_up.ensures.copies refl)

pub invariant_of-self-2 : goal.invariant_of-self-2
invariant_of-self-2 c =
    let same : same_set c.args.acting (last_set c.self.inside.state.sets) ≡ false = ap (λ l. same_set c.args.acting l) (sym c.last_set.ensures) ∙ sym c.same_set.ensures ∙ c.if-same_set.false in
    let room : length c.self.inside.state.sets < 1024 = subst (λ n. n < 1024) c.len.ensures c.if-len-ge-INTERVALS.false in
    whole_up (ap numbers_of c.change_up-2.ensures.up) (next_begun c.self.invariant c.args.acting (numbers_of c.args.up) c.change_up-2.new.copies.items c.begin.new.sets c.begin.new.wire.sent (set_is c.args.acting (rw (← c.as_slice-members.ensures.value) c.as_slice-members.ensures.few) (rw (← c.as_slice-members.ensures.value) c.as_slice-members.ensures.once)) same room c.in_ok-begin.ensures.sets_ok c.in_ok-begin.ensures.wire_ok c.change_up-2.ensures.copies refl)

pub returns-clause-steps : goal.returns-clause-steps
returns-clause-steps c =
    let same : same_set c.args.acting (last_set c.self.inside.state.sets) ≡ false = ap (λ l. same_set c.args.acting l) (sym c.last_set.ensures) ∙ sym c.same_set.ensures ∙ c.if-same_set.false in
    let room : length c.self.inside.state.sets < 1024 = subst (λ n. n < 1024) c.len.ensures c.if-len-ge-INTERVALS.false in
    stepped_up c.self.view_is (ap numbers_of c.change_up-2.ensures.up) (next_begun c.self.invariant c.args.acting (numbers_of c.args.up) c.change_up-2.new.copies.items c.begin.new.sets c.begin.new.wire.sent (set_is c.args.acting (rw (← c.as_slice-members.ensures.value) c.as_slice-members.ensures.few) (rw (← c.as_slice-members.ensures.value) c.as_slice-members.ensures.once)) same room c.in_ok-begin.ensures.sets_ok c.in_ok-begin.ensures.wire_ok c.change_up-2.ensures.copies refl)
