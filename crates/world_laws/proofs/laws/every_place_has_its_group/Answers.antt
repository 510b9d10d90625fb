use Rattle.world_laws.proofs.PlaceGroups.{every_place_has_its_group, places_stay, groups_are_found_by_place}
use Rattle.world_laws.proofs.laws.every_place_has_its_group.Goals as goal

pub returns : goal.returns
returns c = record { all = every_place_has_its_group; next = places_stay; found = groups_are_found_by_place }
