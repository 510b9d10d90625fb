-- The map refuses none of its places.
use Rattle.std.proofs.Common.{List, ◌∷◌, All, []}
use Rattle.std.specs.List.{flat_map}
use Rattle.std.proofs.lemmas.List.Elements.{All-nil, All-cons}
use Rattle.map_core.specs.State.{History}
use Rattle.map_core.specs.Map.{map_of}
use Rattle.map_core.specs.Limits.{IsAccepted}
use Rattle.map_core.specs.declared.pool.Pool.{Pool}
use Rattle.map_core.proofs.Kept.{pools_differ}
use Rattle.group_model_whole.specs.Each.{Each}
use Rattle.world_front.specs.Groups.{groups_of}
use Rattle.world_script.specs.Sweeping.{IsThere}
use Rattle.world_core.proofs.Acting.{each_weaker}
use Rattle.world_core.proofs.Limits.{named_once}
use Rattle.world_core.proofs.GroupsOf.{HasPlace, all_places}
use Rattle.world_core.proofs.PlacesNamed.{place_there}

all_of_each : {X : Type 0} (P : X → Type 0) (xs : List X) → Each P xs → All P xs
all_of_each P [] h = All-nil P
all_of_each P (x ∷ xs) h = All-cons P x xs h.0 (all_of_each P xs h.1)

pub places_there : (h : History) → IsAccepted h → All (IsThere h) (flat_map groups_of (map_of h).pools)
places_there h accepted =
    let pools : List Pool = (map_of h).pools in
    all_of_each (IsThere h) (flat_map groups_of pools)
    (each_weaker (HasPlace pools) (IsThere h) (λ id p. place_there h id p.pool accepted p.found p.less)
    (flat_map groups_of pools) (all_places pools (named_once pools (pools_differ h accepted))))
