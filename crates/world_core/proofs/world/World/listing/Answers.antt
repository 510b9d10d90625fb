use Rattle.std.proofs.Common.{rules}
use Rattle.world_core.proofs.world.World.listing.Goals as goal

pub returns-in-Ok-clause-listing : goal.returns-in-Ok-clause-listing
returns-in-Ok-clause-listing c = search rules
