-- A restart takes nothing from the copy that is furthest on.
use Rattle.std.proofs.Common.{◌≡◌, Bool, true, false, List, [], ◌∷◌, map, refl, ◌∙◌, ap, if◌then◌else◌}
use Rattle.peer_core.specs.Steps.{restarted}
use Rattle.group_model_whole.specs.Choice.{best}
use Rattle.group_model.specs.Types.{Copy}
use Rattle.group_wire.specs.Furthest.{whole_offer, furthest}

map-offers : (f : Copy → Copy) → ((c : Copy) → whole_offer (f c) ≡ whole_offer c) → (cs : List Copy) → map whole_offer (map f cs) ≡ map whole_offer cs
map-offers f same [] = refl
map-offers f same (c ∷ cs) = ap (λ l. whole_offer (f c) ∷ l) (map-offers f same cs) ∙ ap (λ v. v ∷ map whole_offer cs) (same c)

pub furthest-map : (f : Copy → Copy) → ((c : Copy) → whole_offer (f c) ≡ whole_offer c) → (cs : List Copy) → furthest (map f cs) ≡ furthest cs
furthest-map f same [] = refl
furthest-map f same (c ∷ cs) = ap (λ l. (best (whole_offer (f c)) l).log) (map-offers f same cs) ∙ ap (λ v. (best v (map whole_offer cs)).log) (same c)

pub restarted_if : (b : Bool) (c : Copy) → whole_offer (if b then restarted c else c) ≡ whole_offer c
restarted_if true c = refl
restarted_if false c = refl
