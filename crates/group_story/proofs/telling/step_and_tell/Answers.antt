use Rattle.std.proofs.Common.{◌≡◌, ◌∙◌, length, ap}
use Rattle.group_story.specs.Wire.{taken_from, kept}
use Rattle.group_story.specs.Story.{wire_in, place_in}
use Rattle.group_story.proofs.Events.{tells_event}
use Rattle.group_story.proofs.telling.step_and_tell.Goals as goal

pub returns-clause-tells : goal.returns-clause-tells
returns-clause-tells c happened =
    let id = c.args.group.now in
    let wire = wire_in c.args.world.now id in
    let place = place_in id c.args.event in
    let taken : c.in_ok-held.held.taken ≡ taken_from wire place =
    c.in_ok-held.ensures.taken ∙ ap (λ w. taken_from w c.place_taken.result) c.wire_of.ensures ∙ ap (taken_from wire) c.place_taken.ensures in
    let stay : c.in_ok-held.held.kept ≡ length (kept wire place) =
    c.in_ok-held.ensures.kept ∙ ap (λ w. length (kept w c.place_taken.result)) c.wire_of.ensures ∙ ap (λ p. length (kept wire p)) c.place_taken.ensures in
    tells_event id c.args.world.now c.args.event c.apply-done.new.self c.in_ok-wire.wire.taken c.in_ok-wire.wire.sent.items (c.apply-done.ensures.steps happened)
    (λ sent is. c.in_ok-wire.ensures wire place sent taken stay (c.wire_of-2.ensures ∙ is))

pub returns-clause-done : goal.returns-clause-done
returns-clause-done c = c.apply-done.ensures.tells

pub returns-clause-refused : goal.returns-clause-refused
returns-clause-refused c = c.apply-done.ensures.refused

pub returns-clause-lost : goal.returns-clause-lost
returns-clause-lost c = c.apply-done.ensures.lost
