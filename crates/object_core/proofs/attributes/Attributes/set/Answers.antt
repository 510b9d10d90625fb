use Rattle.std.proofs.Common.{sym, ◌∙◌, ap, subst, ◌++◌, ◌∷◌, [], List, ℕ}
use Rattle.object_core.specs.Content.{AreAttributes, place_of}
use Rattle.object_core.proofs.AttributeNames.{set_in_place, set_at_end, room_at_end}
use Rattle.object_core.proofs.attributes.Attributes.set.Goals as goal

pub invariant_of-self : goal.invariant_of-self
invariant_of-self c =
    set_in_place c.self.inside.attributes.items c.args.name c.args.value c.in-Some.place c.self.invariant c.requires.within
    (ap (place_of c.args.name) c.self.view_is ∙ sym c.place.ensures ∙ c.in-Some.is)

pub invariant_of-self-in-Continue-1 : goal.invariant_of-self-in-Continue-1
invariant_of-self-in-Continue-1 c =
    let none = sym c.place.ensures ∙ c.in-None.is in
    let items = c.in_ok-push-in-None.ensures.items in
    subst AreAttributes (sym items) (subst (λ (l : List (List ℕ × List ℕ)). AreAttributes (l ++ (c.args.name, c.args.value) ∷ [])) (sym c.self.view_is)
    (set_at_end c.args.self.now c.args.name c.args.value (subst AreAttributes c.self.view_is c.self.invariant) c.requires.within (room_at_end c.args.self.now c.args.name c.requires.room none) none))
