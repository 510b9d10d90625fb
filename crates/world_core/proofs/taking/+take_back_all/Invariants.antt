use Rattle.std.proofs.Common.{length}
use Rattle.world_core.proofs.taking.+take_back_all.Given as goal

abbrev pub decreases-take_back_all : goal.decreases-take_back_all
decreases-take_back_all l = length l.places.now
