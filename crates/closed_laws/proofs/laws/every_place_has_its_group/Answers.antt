use Rattle.closed_laws.proofs.SoundPlaces.{found_by_place}
use Rattle.closed_laws.proofs.laws.every_place_has_its_group.Goals as goal

pub returns : goal.returns
returns c = record { all = λ w sound. sound.places; found = found_by_place }
