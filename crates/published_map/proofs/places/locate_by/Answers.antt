use Rattle.published_map.proofs.Grows.{grows, goes_on_itself}
use Rattle.published_map.proofs.places.locate_by.Goals as goal

pub enter_as-requires : goal.enter_as-requires
enter_as-requires c x = grows _ _ x x (goes_on_itself _)
