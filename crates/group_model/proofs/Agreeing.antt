-- A group that sends suffixes agrees with one that sends whole logs: what stands for what.
use Rattle.std.proofs.Common.{ℕ, ◌≡◌, ◌≤◌, ◌<◌, true, List, length, take}
use Rattle.std.specs.Prelude.{Option, Some, None}
use Rattle.entry_core.specs.Log.{is_in}
use Rattle.store_core.specs.Request.{Sealed}
use Rattle.store_core.specs.declared.entry.Entry.{Entry}
use Rattle.group_model_whole.specs.Steps.{Stepped as WholeStepped}
use Rattle.group_model_whole.specs.Types.{PeerInfo, Role as WholeRole, Idle as WholeIdle, Peering as WholePeering, Installing as WholeInstalling, Active as WholeActive, Daemon, Body as WholeBody, Interval as WholeInterval, Query as WholeQuery, Info as WholeInfo, Install as WholeInstall, Installed as WholeInstalled, Append as WholeAppend, Appended as WholeAppended, Request as WholeRequest, Reply as WholeReply, NotHere as WholeNotHere, Party, Osd, Client, Sent as WholeSent}
use Rattle.group_model_whole.specs.History.{Begins, History}
use Rattle.group_model_whole.proofs.Invariant.{OfOsd}
use Rattle.group_model.specs.Types.{Body, Interval, Query, Info, Install, Installed, Append, Appended, Request, Reply, NotHere, Sent, Offer, Role, Idle, Peering, Installing, Active, Copy}
use Rattle.entry_core.specs.Fitting.{part_of, last_id}
use Rattle.peer_core.specs.Steps.{Stepped}
use Rattle.peer_core.specs.ActingSets.{others}
use Rattle.group_messages.specs.Beginnings.{count_at}
use Rattle.group_model.specs.Standing.{Both}

-- the log that daemon m had when it promised interval n, or a later one, first
pub record Past (promise : ℕ → ℕ) (h : History) (m n : ℕ) (log : List Entry) : Type 0 where
  pub moved : n ≤ promise m
  pub at : ℕ
  pub below : at < n
  pub held : h.held m at ≡ Some (length log)
  pub within : Begins log (h.grown at)
  pub most : (j k : ℕ) → j < n → h.held m j ≡ Some k → j ≤ at

-- the part of a log that goes to who has another, which begins like it this far
pub record IsPart (mine log : List Entry) (start : ℕ) (part : List Sealed) : Type 0 where
  pub within : start ≤ length mine
  pub within_log : start ≤ length log
  pub same : take start mine ≡ take start log
  pub part_is : part ≡ part_of log start

-- what the asker of interval n says of its own log
pub record QueryAgrees (promise : ℕ → ℕ) (h : History) (m n len : ℕ) (end : Option ℕ) : Type 0 where
  pub log : List Entry
  pub past : Past promise h m n log
  pub len_is : len ≡ length log
  pub end_is : end ≡ last_id log

-- what m told the asker, whose log is mine
pub record InfoAgrees (promise : ℕ → ℕ) (h : History) (n m : ℕ) (mine log : List Entry) (start : ℕ) (part : List Sealed) : Type 0 where
  pub is_part : IsPart mine log start part
  pub past : Past promise h m n log

-- the same, of a log that the asker had
pub record ToldAgrees (promise : ℕ → ℕ) (h : History) (n m asker : ℕ) (log : List Entry) (start : ℕ) (part : List Sealed) : Type 0 where
  pub mine : List Entry
  pub asked : Past promise h asker n mine
  pub told : InfoAgrees promise h n m mine log start part

pub record OfferAgrees (promise : ℕ → ℕ) (h : History) (n : ℕ) (mine : List Entry) (i : Offer) (o : PeerInfo) : Type 0 where
  pub number : i.number ≡ o.number
  pub base : i.base ≡ o.base
  pub told : InfoAgrees promise h n o.number mine o.log i.start i.part

-- the part of the chosen log that goes to member m
pub record InstallAgrees (promise : ℕ → ℕ) (h : History) (n m : ℕ) (log : List Entry) (start : ℕ) (part : List Sealed) : Type 0 where
  pub theirs : List Entry
  pub past : Past promise h m n theirs
  pub is_part : IsPart theirs log start part

abbrev pub OfBoth : Party → Party → (ℕ → ℕ → Type 0) → Type 0
OfBoth Client to P = Unit {0}
OfBoth (Osd m) Client P = Unit {0}
OfBoth (Osd m) (Osd d) P = P m d

pub record InfoStands (promise : ℕ → ℕ) (h : History) (from to : Party) (n base start : ℕ) (part : List Sealed) (w : WholeBody) : Type 0 where
  pub log : List Entry
  pub is : w ≡ WholeInfo n base log
  pub agrees : h.chosen n ≡ None → OfBoth from to (λ m d. ToldAgrees promise h n m d log start part)

pub record InstallStands (promise : ℕ → ℕ) (h : History) (to : Party) (n start : ℕ) (part : List Sealed) (w : WholeBody) : Type 0 where
  pub log : List Entry
  pub is : w ≡ WholeInstall n log
  pub agrees : OfOsd to (λ d. InstallAgrees promise h n d log start part)

-- a message stands for that one, which sends whole logs
abbrev pub BodyAgrees : (ℕ → ℕ) → History → Party → Party → Body → WholeBody → Type 0
BodyAgrees p h from to (Interval sets) w = w ≡ WholeInterval sets
BodyAgrees p h from to (Query n len end) w = (w ≡ WholeQuery n) × (h.chosen n ≡ None → OfBoth from to (λ m d. QueryAgrees p h m n len end))
BodyAgrees p h from to (Info n base start part) w = InfoStands p h from to n base start part w
BodyAgrees p h from to (Install n start part) w = InstallStands p h to n start part w
BodyAgrees p h from to (Installed n) w = w ≡ WholeInstalled n
BodyAgrees p h from to (Append n place s) w = w ≡ WholeAppend n place s
BodyAgrees p h from to (Appended n place) w = w ≡ WholeAppended n place
BodyAgrees p h from to (Request s) w = w ≡ WholeRequest s
BodyAgrees p h from to (Reply id reply) w = w ≡ WholeReply id reply
BodyAgrees p h from to (NotHere id) w = w ≡ WholeNotHere id

pub record SentAgrees (promise : ℕ → ℕ) (h : History) (m : Sent) (w : WholeSent) : Type 0 where
  pub from : w.from ≡ m.from
  pub to : w.to ≡ m.to
  pub body : BodyAgrees promise h m.from m.to m.body w.body

-- the old copy that a new one stands for, in this role
abbrev pub whole : Copy → WholeRole → Daemon
whole c r = record { number = c.number; min_size = c.min_size; promise = c.promise; base = c.base; log = c.log; known = c.known; role = r; waiting = c.waiting }

pub record PeeringStands (promise : ℕ → ℕ) (h : History) (n : ℕ) (log : List Entry) (informed : List Offer) (w : WholeRole) : Type 0 where
  pub infos : List PeerInfo
  pub is : w ≡ WholePeering infos
  pub agree : Both (OfferAgrees promise h n log) informed infos

-- a role of interval n, of a copy of this log with these other members
abbrev pub RoleAgrees : (ℕ → ℕ) → History → ℕ → List Entry → List ℕ → Role → WholeRole → Type 0
RoleAgrees p h n log members Idle w = w ≡ WholeIdle
RoleAgrees p h n log members (Peering informed) w = PeeringStands p h n log informed w
RoleAgrees p h n log members (Installing done common) w = (w ≡ WholeInstalling done) × ((m : ℕ) → is_in members m ≡ true → InstallAgrees p h n m log (count_at common m) (part_of log (count_at common m)))
RoleAgrees p h n log members (Active flight) w = w ≡ WholeActive flight

pub record CopyAgrees (promise : ℕ → ℕ) (h : History) (c : Copy) (w : Daemon) : Type 0 where
  pub role : WholeRole
  pub is : w ≡ whole c role
  pub agrees : RoleAgrees promise h c.promise c.log (others c) c.role role

pub record StepAgrees (promise : ℕ → ℕ) (h : History) (s : Stepped) (w : WholeStepped) : Type 0 where
  pub copy : CopyAgrees promise h s.copy w.copy
  pub sent : Both (SentAgrees promise h) s.sent w.sent
