-- Statement: contracts of public calls use it.
-- Copies and messages where peering sends whole logs (Ceph Peering, and this project's profile): every other file takes them from here.
-- No code has them. They are what groups that send suffixes are compared with.
use Rattle.std.specs.Prelude.{ℕ, List, Option}
pub use Rattle.store_core.specs.Request.{Sealed}
pub use Rattle.store_core.specs.declared.entry.Entry.{Entry}
pub use Rattle.store_core.specs.declared.reply.Reply.{Reply as EntryReply}
pub use Rattle.group_messages.specs.declared.party.Party.{Party}
pub use Rattle.group_messages.specs.declared.party.Party.TheVariants.{Client, Osd}

-- what a message says
pub data Body : Type 0 where
  Interval : (sets : List (List ℕ)) → Body  -- the sets of all intervals so far
  Query : (interval : ℕ) → Body  -- asks for the copy, and for the promise to follow no earlier interval
  Info : (interval base : ℕ) (log : List Entry) → Body  -- a copy as it is, and the interval that its log began with
  Install : (interval : ℕ) (log : List Entry) → Body  -- the log that an interval begins with
  Installed : (interval : ℕ) → Body
  Append : (interval index : ℕ) (request : Sealed) → Body  -- the request that the entry of an index decides
  Appended : (interval index : ℕ) → Body
  Request : (request : Sealed) → Body
  Reply : (id : ℕ) (reply : EntryReply) → Body
  NotHere : (id : ℕ) → Body  -- the request came to a daemon that does not lead its group now

-- what reaches a daemon
pub record Message : Type 0 where
  pub from : Party
  pub body : Body

-- what was sent
pub record Sent : Type 0 where
  pub from : Party
  pub to : Party
  pub body : Body

-- what another daemon reported of its copy
pub record PeerInfo : Type 0 where
  pub number : ℕ
  pub base : ℕ
  pub log : List Entry

-- what a daemon does for its group in the interval that it promised
pub data Role : Type 0 where
  Idle : Role
  Peering : (informed : List PeerInfo) → Role  -- it asks for copies: the others that reported theirs
  Installing : (done : List ℕ) → Role  -- it sends out the chosen log: the other members that have it
  Active : (flight : Option (List ℕ)) → Role  -- it takes requests: of the entry in flight, the other members that have it

-- a daemon's copy of a group
pub record Daemon : Type 0 where
  pub number : ℕ
  pub min_size : ℕ
  pub promise : ℕ
  pub base : ℕ
  pub log : List Entry
  pub known : List (List ℕ)
  pub role : Role
  pub waiting : List Sealed
