-- Statement: contracts of public calls use it.
-- When a group whose peering sends suffixes stands for one whose peering sends whole logs.
use Rattle.std.specs.Prelude.{ℕ, ◌≡◌, List, [], ◌∷◌, map}
use Rattle.store_core.specs.declared.entry.Entry.{Entry}
use Rattle.group_model_whole.specs.Types.{PeerInfo, Body as WholeBody, Interval as WholeInterval, Query as WholeQuery, Info as WholeInfo, Install as WholeInstall, Installed as WholeInstalled, Append as WholeAppend, Appended as WholeAppended, Request as WholeRequest, Reply as WholeReply, NotHere as WholeNotHere, Sent as WholeSent, Role as WholeRole, Idle as WholeIdle, Peering as WholePeering, Installing as WholeInstalling, Active as WholeActive, Daemon}
use Rattle.group_model_whole.specs.Group.{Group as WholeGroup}
use Rattle.group_model.specs.Types.{Body, Interval, Query, Info, Install, Installed, Append, Appended, Request, Reply, NotHere, Sent, Offer, Role, Idle, Peering, Installing, Active, Copy}
use Rattle.group_model.specs.Group.{Group}

-- two lists agree, one by one
abbrev pub Both : {X Y : Type 0} → (X → Y → Type 0) → List X → List Y → Type 0
Both R [] [] = Unit {0}
Both R [] (y ∷ ys) = ⊥
Both R (x ∷ xs) [] = ⊥
Both R (x ∷ xs) (y ∷ ys) = R x y × Both R xs ys

-- messages of one kind and interval, which differ in no more than how they carry a log

-- the same daemons were heard
pub record SamePeering (informed : List Offer) (w : WholeRole) : Type 0 where
  pub infos : List PeerInfo
  pub is : w ≡ WholePeering infos
  pub numbers : map (λ (i : Offer). i.number) informed ≡ map (λ (o : PeerInfo). o.number) infos

pub record SameInfo (n base : ℕ) (w : WholeBody) : Type 0 where
  pub log : List Entry
  pub is : w ≡ WholeInfo n base log

pub record SameInstall (n : ℕ) (w : WholeBody) : Type 0 where
  pub log : List Entry
  pub is : w ≡ WholeInstall n log

abbrev pub SameBody : Body → WholeBody → Type 0
SameBody (Interval sets) w = w ≡ WholeInterval sets
SameBody (Query n len end) w = w ≡ WholeQuery n
SameBody (Info n base start part) w = SameInfo n base w
SameBody (Install n start part) w = SameInstall n w
SameBody (Installed n) w = w ≡ WholeInstalled n
SameBody (Append n index s) w = w ≡ WholeAppend n index s
SameBody (Appended n index) w = w ≡ WholeAppended n index
SameBody (Request s) w = w ≡ WholeRequest s
SameBody (Reply id reply) w = w ≡ WholeReply id reply
SameBody (NotHere id) w = w ≡ WholeNotHere id

pub record SameSent (m : Sent) (w : WholeSent) : Type 0 where
  pub from : w.from ≡ m.from
  pub to : w.to ≡ m.to
  pub body : SameBody m.body w.body

-- one kind of role, with the same daemons heard, the same members counted, the same entry in flight
abbrev pub SameRole : Role → WholeRole → Type 0
SameRole Idle w = w ≡ WholeIdle
SameRole (Peering informed) w = SamePeering informed w
SameRole (Installing done common) w = w ≡ WholeInstalling done
SameRole (Active flight) w = w ≡ WholeActive flight

pub record SameCopy (c : Copy) (w : Daemon) : Type 0 where
  pub number : w.number ≡ c.number
  pub min_size : w.min_size ≡ c.min_size
  pub promise : w.promise ≡ c.promise
  pub base : w.base ≡ c.base
  pub log : w.log ≡ c.log
  pub known : w.known ≡ c.known
  pub waiting : w.waiting ≡ c.waiting
  pub role : SameRole c.role w.role

-- the two differ in messages and roles alone, and there only in how logs are carried
pub record StandsFor (g : Group) (w : WholeGroup) : Type 0 where
  pub group : w.group ≡ g.group
  pub min_size : w.min_size ≡ g.min_size
  pub copies : Both SameCopy g.copies w.copies
  pub wire : Both SameSent g.wire w.wire
  pub sets : w.sets ≡ g.sets
  pub up : w.up ≡ g.up
  pub requests : w.requests ≡ g.requests
  pub answers : w.answers ≡ g.answers
  pub audit : w.audit ≡ g.audit
