-- Statement: contracts of public calls use it.
-- Where a request that a group holds comes from, and what an answer rests on.
use Rattle.std.specs.Prelude.{ℕ, ◌≡◌, List, ◌∷◌, ◌++◌, Some}
use Rattle.entry_core.specs.Log.{find}
use Rattle.store_core.specs.Request.{Sealed}
use Rattle.store_core.specs.declared.entry.Entry.{Entry}
use Rattle.group_model_whole.specs.Types.{Role, Idle, Peering, Installing, Active, Daemon, Body, Interval, Query, Info, Install, Installed, Append, Appended, Request, Reply, NotHere, EntryReply}
use Rattle.group_model_whole.specs.Each.{Each}
use Rattle.group_model_whole.specs.Group.{Group, Event, Submit, submitted}

-- that request was submitted under its number
abbrev pub IsAsked : List Sealed → Sealed → Type 0
IsAsked requests s = submitted requests s.id ≡ Some s

-- one of these events submits that request
pub record HasSubmit (events : List Event) (s : Sealed) : Type 0 where
  pub before : List Event
  pub after : List Event
  pub whole : before ++ Submit s ∷ after ≡ events

-- a fact of each request in a log, a role, a copy, a message

abbrev pub InLog : (Sealed → Type 0) → List Entry → Type 0
InLog P log = Each (λ e. P e.sealed) log

abbrev pub InRole : (Sealed → Type 0) → Role → Type 0
InRole P Idle = Unit {0}
InRole P (Peering informed) = Each (λ i. InLog P i.log) informed
InRole P (Installing done) = Unit {0}
InRole P (Active flight) = Unit {0}

pub record InCopy (P : Sealed → Type 0) (c : Daemon) : Type 0 where
  pub log : InLog P c.log
  pub waiting : Each P c.waiting
  pub role : InRole P c.role

abbrev pub InBody : (Sealed → Type 0) → Body → Type 0
InBody P (Interval sets) = Unit {0}
InBody P (Query n) = Unit {0}
InBody P (Info n base log) = InLog P log
InBody P (Install n log) = InLog P log
InBody P (Installed n) = Unit {0}
InBody P (Append n index s) = P s
InBody P (Appended n index) = Unit {0}
InBody P (Request s) = P s
InBody P (Reply id reply) = Unit {0}
InBody P (NotHere id) = Unit {0}

-- each request that stands anywhere in the group is the one that was submitted under its number
pub record AllAsked (g : Group) : Type 0 where
  pub requests : Each (IsAsked g.requests) g.requests
  pub copies : Each (InCopy (IsAsked g.requests)) g.copies
  pub wire : Each (λ m. InBody (IsAsked g.requests) m.body) g.wire
  pub audit : InLog (IsAsked g.requests) g.audit

-- these entries have that reply to the request of that number
pub record IsReplied (es : List Entry) (id : ℕ) (reply : EntryReply) : Type 0 where
  pub entry : Entry
  pub found : find es id ≡ Some entry
  pub is : entry.reply ≡ reply

abbrev pub InReply : List Entry → Body → Type 0
InReply es (Interval sets) = Unit {0}
InReply es (Query n) = Unit {0}
InReply es (Info n base log) = Unit {0}
InReply es (Install n log) = Unit {0}
InReply es (Installed n) = Unit {0}
InReply es (Append n index s) = Unit {0}
InReply es (Appended n index) = Unit {0}
InReply es (Request s) = Unit {0}
InReply es (Reply id reply) = IsReplied es id reply
InReply es (NotHere id) = Unit {0}
