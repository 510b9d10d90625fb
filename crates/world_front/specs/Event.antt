-- Statement: contracts of public calls use it.
-- The types of what happens to a world: every other file takes them from here.
pub use Rattle.world_events.specs.declared.event.Ask.{Ask}
pub use Rattle.world_events.specs.declared.event.AuthCommand.{AuthCommand}
pub use Rattle.world_events.specs.declared.event.AuthCommand.TheVariants.{Add, GetOrCreate, SetCaps, Delete}
pub use Rattle.world_events.specs.declared.event.Event.{Event}
pub use Rattle.world_events.specs.declared.event.Event.TheVariants.{Auth, Map, Open, Renew, Close, Submit, List as ListNames, Deliver, Lose, Repeat, Kick}
pub use Rattle.world_events.specs.declared.event.Told.{Told}
pub use Rattle.world_events.specs.declared.event.Told.TheVariants.{Done, Made, There, Epoch, Session as OfSession, Request, List as Pieces}
pub use Rattle.world_events.specs.declared.fault.WorldFault.{WorldFault as Fault}
pub use Rattle.world_events.specs.declared.fault.WorldFault.TheVariants.{NoSession, NoPool, BadObjectName, StaleEpoch, NoRequest, Limit, OutOfMemory, StaleTick, Auth as OfUsers, Map as OfMap, Needs as OfNeeds, Group as OfGroup}
