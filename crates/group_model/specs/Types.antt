-- Statement: contracts of public calls use it.
-- The types that copies and messages of peering by suffixes have: every other file takes them from here.
pub use Rattle.store_core.specs.declared.reply.Reply.{Reply as EntryReply}
pub use Rattle.group_messages.specs.declared.party.Party.{Party}
pub use Rattle.group_messages.specs.declared.party.Party.TheVariants.{Client, Osd}
pub use Rattle.group_messages.specs.declared.message.Body.{Body}
pub use Rattle.group_messages.specs.declared.message.Body.TheVariants.{Interval, Query, Info, Install, Installed, Append, Appended, Request, Reply, NotHere}
pub use Rattle.group_messages.specs.declared.message.Message.{Message}
pub use Rattle.group_messages.specs.declared.message.Sent.{Sent}
pub use Rattle.group_messages.specs.declared.role.PeerInfo.{PeerInfo as Offer}
pub use Rattle.group_messages.specs.declared.role.Common.{Common}
pub use Rattle.group_messages.specs.declared.role.Role.{Role}
pub use Rattle.group_messages.specs.declared.role.Role.TheVariants.{Idle, Peering, Installing, Active}
pub use Rattle.peer_core.specs.declared.state.State.{State as Copy}
pub use Rattle.peer_core.specs.declared.state.State.{State as Daemon}
