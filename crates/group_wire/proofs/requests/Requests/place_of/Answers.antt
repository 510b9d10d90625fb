use Rattle.std.proofs.Common.{◌≡◌, ◌∙◌, false, sym, subst}
use Rattle.group_model.specs.Group.{is_submitted}
use Rattle.group_wire.specs.Places.{IsPlaceOf}
use Rattle.group_wire.proofs.Places.{placed, unplaced}
use Rattle.group_wire.proofs.requests.Requests.place_of.Goals as goal

pub returns-in-Some : goal.returns-in-Some
returns-in-Some c = subst (λ l. IsPlaceOf l c.args.id c.in-Some.place) c.self.view_is
    (placed c.self.inside.all.items c.self.inside.ids.keys c.args.id c.in-Some.place c.self.invariant c.len-count.ensures.unique (sym c.get_index_of.ensures.index ∙ c.in-Some.is))

pub returns-in-None : goal.returns-in-None
returns-in-None c = subst (λ l. is_submitted l c.args.id ≡ false) c.self.view_is
    (unplaced c.self.inside.all.items c.self.inside.ids.keys c.args.id c.self.invariant (sym c.in-None.ensures.found))
