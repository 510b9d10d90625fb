use Rattle.std.proofs.Common.{arith, ◌≡◌, ap, sym, ◌∙◌, subst}
use Rattle.group_model.specs.Group.{last_set}
use Rattle.group_model.specs.Reached.{HasJustTaken, unsent}
use Rattle.group_core.proofs.Calls.{whole_back}
use Rattle.std.proofs.lemmas.Grind.{common_steps}
use Rattle.group_core.proofs.group.Group.undo_submit.Goals as goal

pub invariant_of-self : goal.invariant_of-self
invariant_of-self c =
    let taken = c.requires.1.1 in
    let wire : c.take_back_sent.new.wire.sent ≡ unsent (last_set c.self.inside.state.sets) c.self.inside.state.wire.sent = c.take_back_sent.ensures ∙ ap (λ l. unsent l c.self.inside.state.wire.sent) c.last_set.ensures in
    whole_back _ c.requires.0 c.requires.1.0 c.self.inside.state.decided c.take_back_sent.new.wire.sent c.undo_submit.new.self.requests c.undo_submit.new.self.answers
    (subst (λ v. HasJustTaken v c.requires.0 c.requires.1.0) (sym c.self.view_is) taken) c.self.invariant wire c.undo_submit.ensures.requests c.undo_submit.ensures.answers

pub returns : goal.returns
returns c = grind (arith, common_steps)
