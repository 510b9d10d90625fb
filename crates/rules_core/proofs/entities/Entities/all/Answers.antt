use Rattle.std.proofs.Common.{◌≡◌, length, ap, arith}
use Rattle.rules_core.proofs.NearSteps.{first_has, first_places}
use Rattle.rules_core.proofs.entities.Entities.all.Goals as goal

pub returns : goal.returns
returns c =
    let same : length c.self.inside.subjects.now ≡ length c.args.self.now = ap (λ l. length l) c.self.view_is in
    let full : c.loop-place.place ≡ length c.args.self.now = omega (arith, same) in
    (first_places c.args.self.now c.loop-place.places.items c.loop-place.place full c.loop-place.invariant, first_has c.args.self.now c.loop-place.places.items c.loop-place.place full c.loop-place.invariant)
