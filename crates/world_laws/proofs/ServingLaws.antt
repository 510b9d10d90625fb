-- A world is the service.
use Rattle.std.proofs.Common.{refl}
use Rattle.world_core.specs.World.{first_world}
use Rattle.world_laws.specs.Serving.{WorldsBegin, WorldsServe, PartsServe}
use Rattle.world_core.specs.Parts.{put_together}
use Rattle.world_core.proofs.Sounds.{first_sound}
use Rattle.world_core.proofs.Serving.{from_begun, serves_through}

pub worlds_begin : WorldsBegin
worlds_begin table daemons = refl

pub worlds_serve : WorldsServe
worlds_serve table daemons events accepted = serves_through events (first_world table daemons) (first_sound table daemons) accepted

pub parts_serve : PartsServe
parts_serve p h = from_begun (put_together p) h.sound
