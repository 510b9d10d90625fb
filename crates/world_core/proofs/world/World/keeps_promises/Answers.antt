use Rattle.std.proofs.Common.{subst}
use Rattle.world_core.specs.Calls.{KeepsPromises}
use Rattle.world_core.proofs.Serving.{sound_promises}
use Rattle.world_core.proofs.world.World.keeps_promises.Goals as goal

pub returns : goal.returns
returns c = subst KeepsPromises c.self.view_is (sound_promises _ c.self.invariant.sound)
