use Rattle.std.proofs.Common.{◌∙◌, ap, sym, cond, Some, None, string_bytes}
use Rattle.std.specs.Option.{option_or}
use Rattle.std.specs.Str.{bytes_eq}
use Rattle.verdict_text.specs.FirstPlaces.{place_of}
use Rattle.verdict_text.specs.declared.entity.Entity.{Entity}
use Rattle.verdict_text.proofs.FirstPlaces.{next_place, all_places}
use Rattle.verdict_text.proofs.named.first_places.Goals as goal

pub loop-place-preserved : goal.loop-place-preserved
loop-place-preserved c =
    next_place c.args.entities.now c.loop-place.place c.index-entities-place.result c.loop-place.places.entries c.add.new.places.entries c.loop-place-test.true c.index-entities-place.is c.loop-place.invariant
    (λ wanted. c.in_ok-add.ensures wanted
    ∙ ap (λ bytes. option_or (place_of c.loop-place.places.entries wanted) (cond (bytes_eq wanted bytes) (Some c.loop-place.place) None))
    (c.as_str.ensures.value ∙ ap (λ (e : Entity). string_bytes e.name) (sym c.index-entities-place.is)))

pub returns : goal.returns
returns c = all_places c.args.entities.now c.loop-place.place c.loop-place.places.entries c.loop-place-test.false c.loop-place.invariant
