use Rattle.std.proofs.Common.{◌∙◌, ap, sym}
use Rattle.verdict_text.specs.Named.{entity_in}
use Rattle.verdict_text.proofs.FirstPlaces.{found_at, found_none}
use Rattle.verdict_text.proofs.named.NamedEntities.find.Goals as goal

pub returns-in-Some : goal.returns-in-Some
returns-in-Some c =
    c.at.ensures ∙ found_at c.self.inside.places.entries c.self.inside.entities.now c.args.name.now c.in-Some.place.now c.self.invariant (sym c.in-Some.ensures.value)
    ∙ ap (λ es. entity_in es c.args.name.now) c.self.view_is

pub returns-in-None : goal.returns-in-None
returns-in-None c =
    found_none c.self.inside.places.entries c.self.inside.entities.now c.args.name.now c.self.invariant (sym c.in-None.ensures.value) ∙ ap (λ es. entity_in es c.args.name.now) c.self.view_is
