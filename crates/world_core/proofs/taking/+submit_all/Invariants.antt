use Rattle.std.proofs.Common.{length}
use Rattle.world_core.proofs.taking.+submit_all.Given as goal

abbrev pub decreases-submit_all : goal.decreases-submit_all
decreases-submit_all l = length l.places.now
