use Rattle.std.proofs.Common.{◌≡◌, ◌<◌, ◌∙◌, ◌++◌, ◌∷◌, [], sym, ap, subst, refl, length, true, false}
use Rattle.entry_core.specs.Log.{is_in}
use Rattle.group_model.specs.Group.{last_set, announced, resent}
use Rattle.group_core.proofs.Calls.{next_restarted, next_rejoined, stepped}
use Rattle.group_core.proofs.group.Group.restart.Goals as goal

pub invariant_of-self : goal.invariant_of-self
invariant_of-self c =
    let in_last : is_in (last_set c.self.inside.state.sets) c.args.daemon ≡ false = ap (λ l. is_in l c.args.daemon) (sym c.last_set-acting.ensures) ∙ sym c.has_member.ensures ∙ c.if-not-has_member.true in
    (next_restarted c.self.invariant c.args.daemon c.restart_one.new.copies.items in_last c.restart_one.ensures refl).whole

pub returns-then-not-has_member-clause-steps : goal.returns-then-not-has_member-clause-steps
returns-then-not-has_member-clause-steps c =
    let in_last : is_in (last_set c.self.inside.state.sets) c.args.daemon ≡ false = ap (λ l. is_in l c.args.daemon) (sym c.last_set-acting.ensures) ∙ sym c.has_member.ensures ∙ c.if-not-has_member.true in
    stepped c.self.view_is (next_restarted c.self.invariant c.args.daemon c.restart_one.new.copies.items in_last c.restart_one.ensures refl)

pub invariant_of-self-2 : goal.invariant_of-self-2
invariant_of-self-2 c =
    let in_last : is_in (last_set c.self.inside.state.sets) c.args.daemon ≡ true = ap (λ l. is_in l c.args.daemon) (sym c.last_set-acting.ensures) ∙ sym c.has_member.ensures ∙ c.if-not-has_member.false in
    let room : length c.self.inside.state.sets < 1024 = subst (λ n. n < 1024) c.len.ensures c.if-len-ge-INTERVALS.false in
    let sets : c.begin.new.sets ≡ c.self.inside.state.sets ++ last_set c.self.inside.state.sets ∷ [] = c.in_ok-begin.ensures.sets_ok ∙ ap (λ a. c.self.inside.state.sets ++ a ∷ []) c.last_set-acting.ensures in
    let wire : c.begin.new.wire.sent ≡ (c.self.inside.state.wire.sent ++ announced (c.self.inside.state.sets ++ last_set c.self.inside.state.sets ∷ [])) ++ resent (c.self.inside.state.sets ++ last_set c.self.inside.state.sets ∷ []) c.self.inside.state.ledger.requests c.self.inside.state.ledger.answers =
    c.in_ok-begin.ensures.wire_ok ∙ ap (λ a. (c.self.inside.state.wire.sent ++ announced (c.self.inside.state.sets ++ a ∷ [])) ++ resent (c.self.inside.state.sets ++ a ∷ []) c.self.inside.state.ledger.requests c.self.inside.state.ledger.answers) c.last_set-acting.ensures in
    (next_rejoined c.self.invariant c.args.daemon c.restart_one-2.new.copies.items c.begin.new.sets c.begin.new.wire.sent in_last room sets wire c.restart_one-2.ensures refl).whole

pub returns-clause-steps : goal.returns-clause-steps
returns-clause-steps c =
    let in_last : is_in (last_set c.self.inside.state.sets) c.args.daemon ≡ true = ap (λ l. is_in l c.args.daemon) (sym c.last_set-acting.ensures) ∙ sym c.has_member.ensures ∙ c.if-not-has_member.false in
    let room : length c.self.inside.state.sets < 1024 = subst (λ n. n < 1024) c.len.ensures c.if-len-ge-INTERVALS.false in
    let sets : c.begin.new.sets ≡ c.self.inside.state.sets ++ last_set c.self.inside.state.sets ∷ [] = c.in_ok-begin.ensures.sets_ok ∙ ap (λ a. c.self.inside.state.sets ++ a ∷ []) c.last_set-acting.ensures in
    let wire : c.begin.new.wire.sent ≡ (c.self.inside.state.wire.sent ++ announced (c.self.inside.state.sets ++ last_set c.self.inside.state.sets ∷ [])) ++ resent (c.self.inside.state.sets ++ last_set c.self.inside.state.sets ∷ []) c.self.inside.state.ledger.requests c.self.inside.state.ledger.answers =
    c.in_ok-begin.ensures.wire_ok ∙ ap (λ a. (c.self.inside.state.wire.sent ++ announced (c.self.inside.state.sets ++ a ∷ [])) ++ resent (c.self.inside.state.sets ++ a ∷ []) c.self.inside.state.ledger.requests c.self.inside.state.ledger.answers) c.last_set-acting.ensures in
    stepped c.self.view_is (next_rejoined c.self.invariant c.args.daemon c.restart_one-2.new.copies.items c.begin.new.sets c.begin.new.wire.sent in_last room sets wire c.restart_one-2.ensures refl)
