-- Statement: contracts of public calls use it.
-- The types of entries, requests and offers, of which the rules about beginnings speak.
pub use Rattle.store_core.specs.Request.{Sealed}
pub use Rattle.store_core.specs.declared.entry.Entry.{Entry}
pub use Rattle.group_messages.specs.declared.role.PeerInfo.{PeerInfo as Offer}
pub use Rattle.group_messages.specs.declared.role.Common.{Common}
