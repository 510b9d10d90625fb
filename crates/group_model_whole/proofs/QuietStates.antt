-- The states of a quiet group: what is on its way to each member, and how many deliveries are to come.
use Rattle.std.proofs.Common.{ℕ, ◌≡◌, ◌≤◌, ◌+◌, ◌*◌, Bool, true, false, ◌==◌, List, [], ◌∷◌, ◌++◌, map, length, if◌then◌else◌, ◌⊎◌}
use Rattle.std.specs.Prelude.{Option, Some, None, slice_get}
use Rattle.std.specs.List.{list_any, filter}
use Rattle.entry_core.specs.Log.{is_in, decide}
use Rattle.store_core.specs.Request.{Sealed}
use Rattle.store_core.specs.declared.entry.Entry.{Entry}
use Rattle.group_model_whole.specs.Choice.{can_choose}
use Rattle.group_model_whole.specs.ActingSets.{all_count}
use Rattle.group_model_whole.specs.Types.{EntryReply, PeerInfo, Role, Idle, Peering, Installing, Active, Daemon, Body, Interval, Query, Info, Install, Installed, Append, Appended, Request, Reply, NotHere, Party, Osd, Client, Sent}
use Rattle.group_model_whole.specs.Each.{Each}
use Rattle.group_messages.specs.Answers.{Answer}
use Rattle.group_model_whole.specs.Group.{Group, to_daemon}
use Rattle.group_model_whole.specs.Calm.{answer_with}
use Rattle.group_model_whole.specs.Steps.{blank}
use Rattle.group_model_whole.specs.Decided.{decided_by}
use Rattle.group_model_whole.proofs.QuietLists.{one, total, joined}

-- the round messages of member d: what asks it, and what it says

abbrev pub is_osd : Party → ℕ → Bool
is_osd (Osd e) d = e == d
is_osd Client d = false

abbrev pub concerns_as : Body → Party → Party → ℕ → Bool
concerns_as (Query n) from to d = is_osd to d
concerns_as (Info n base log) from to d = is_osd from d
concerns_as (Install n log) from to d = is_osd to d
concerns_as (Installed n) from to d = is_osd from d
concerns_as (Append n place s) from to d = is_osd to d
concerns_as (Appended n place) from to d = is_osd from d
concerns_as (Interval sets) from to d = false
concerns_as (Request s) from to d = false
concerns_as (Reply id reply) from to d = false
concerns_as (NotHere id) from to d = false

abbrev pub concerns : ℕ → Sent → Bool
concerns d m = concerns_as m.body m.from m.to d

-- of a request's number

abbrev pub asks_in : ℕ → Body → ℕ
asks_in id (Request s) = one (s.id == id)
asks_in id (Interval sets) = 0
asks_in id (Query n) = 0
asks_in id (Info n base log) = 0
asks_in id (Install n log) = 0
asks_in id (Installed n) = 0
asks_in id (Append n place s) = 0
asks_in id (Appended n place) = 0
asks_in id (Reply i reply) = 0
asks_in id (NotHere i) = 0

abbrev pub replies_in : ℕ → Body → ℕ
replies_in id (Reply i reply) = one (i == id)
replies_in id (Request s) = 0
replies_in id (Interval sets) = 0
replies_in id (Query n) = 0
replies_in id (Info n base log) = 0
replies_in id (Install n log) = 0
replies_in id (Installed n) = 0
replies_in id (Append n place s) = 0
replies_in id (Appended n place) = 0
replies_in id (NotHere i) = 0

abbrev pub asks : ℕ → List Sent → ℕ
asks id ms = total (λ m. asks_in id m.body) ms

abbrev pub replies : ℕ → List Sent → ℕ
replies id ms = total (λ m. replies_in id m.body) ms

abbrev pub of_id : ℕ → List Sealed → ℕ
of_id id ss = total (λ s. one (s.id == id)) ss

abbrev pub logs : ℕ → List Entry → ℕ
logs id log = total (λ e. one (e.sealed.id == id)) log

-- the requests among messages, in order, and the answers

abbrev pub wants_in : Body → List Sealed
wants_in (Request s) = s ∷ []
wants_in (Interval sets) = []
wants_in (Query n) = []
wants_in (Info n base log) = []
wants_in (Install n log) = []
wants_in (Installed n) = []
wants_in (Append n place s) = []
wants_in (Appended n place) = []
wants_in (Reply i reply) = []
wants_in (NotHere i) = []

abbrev pub says_in : Body → List Answer
says_in (Reply i reply) = record { id = i; reply = reply } ∷ []
says_in (Request s) = []
says_in (Interval sets) = []
says_in (Query n) = []
says_in (Info n base log) = []
says_in (Install n log) = []
says_in (Installed n) = []
says_in (Append n place s) = []
says_in (Appended n place) = []
says_in (NotHere i) = []

abbrev pub wants : List Sent → List Sealed
wants ms = joined (λ m. wants_in m.body) ms

abbrev pub says : List Sent → List Answer
says ms = joined (λ m. says_in m.body) ms

abbrev pub sealed_of : List Entry → List Sealed
sealed_of log = map (λ e. e.sealed) log

abbrev pub answers_of : List Entry → List Answer
answers_of log = map answer_with log

abbrev pub between : ℕ → ℕ → Body → Sent
between a b body = record { from = Osd a; to = Osd b; body = body }

-- copies of members

pub record IsFresh (e : Daemon) : Type 0 where
  pub promise : e.promise ≤ 1
  pub base : e.base ≡ 0
  pub log : e.log ≡ []

pub record HasLog (e : Daemon) (held : List Entry) : Type 0 where
  pub promise : e.promise ≡ 1
  pub base : e.base ≡ 1
  pub log : e.log ≡ held

pub record IsDone (e : Daemon) (log : List Entry) (ms : List Sent) : Type 0 where
  pub none : ms ≡ []
  pub holds : HasLog e log

-- the log ends with this entry
pub record Ends (log : List Entry) : Type 0 where
  pub front : List Entry
  pub sealed : Sealed
  pub whole : log ≡ front ++ decide front sealed ∷ []

-- the group of members p and os, p the first
module _ (z p : ℕ) (os : List ℕ) where
  abbrev pub lead_copy : ℕ → List Entry → Role → List Sealed → Daemon
  lead_copy base log role waiting = record { number = p; min_size = z; promise = 1; base = base; log = log; known = (p ∷ os) ∷ []; role = role; waiting = waiting }

  -- deliveries to come

  abbrev pub interval_weight : Party → ℕ
  interval_weight (Osd d) = if d == p then 1 + 4 * length os else 1
  interval_weight Client = 1

  abbrev pub weight_as : Body → Party → ℕ
  weight_as (Interval sets) to = interval_weight to
  weight_as (Query n) to = 2
  weight_as (Info n base log) to = 1
  weight_as (Install n log) to = 2
  weight_as (Installed n) to = 1
  weight_as (Append n place s) to = 2
  weight_as (Appended n place) to = 1
  weight_as (Request s) to = 2 * length os + 2
  weight_as (Reply id reply) to = 1
  weight_as (NotHere id) to = 1

  abbrev pub wire_weight : List Sent → ℕ
  wire_weight ms = total (λ m. weight_as m.body m.to) ms

  abbrev pub flight_weight : Option (List ℕ) → ℕ
  flight_weight None = 0
  flight_weight (Some holders) = 1

  abbrev pub role_weight : Role → ℕ
  role_weight Idle = 0
  role_weight (Peering informed) = 2 * length os
  role_weight (Installing done) = 0
  role_weight (Active flight) = flight_weight flight

  abbrev pub waiting_weight : List Sealed → ℕ
  waiting_weight ss = total (λ s. 2 * length os + 1) ss

  -- what is on its way to a member, or from it

  pub record IsAsked (d : ℕ) (ms : List Sent) : Type 0 where
    pub is : ms ≡ between p d (Query 1) ∷ []

  pub record IsTelling (d : ℕ) (ms : List Sent) : Type 0 where
    pub base : ℕ
    pub is : ms ≡ between d p (Info 1 base []) ∷ []

  abbrev pub Peered : Bool → ℕ → List Sent → Type 0
  Peered true d ms = ms ≡ []
  Peered false d ms = IsAsked d ms ⊎ IsTelling d ms

  pub record IsSetting (d : ℕ) (e : Daemon) (log : List Entry) (ms : List Sent) : Type 0 where
    pub fresh : IsFresh e
    pub is : ms ≡ between p d (Install 1 log) ∷ []

  pub record HasSet (d : ℕ) (e : Daemon) (log : List Entry) (ms : List Sent) : Type 0 where
    pub holds : HasLog e log
    pub is : ms ≡ between d p (Installed 1) ∷ []

  abbrev pub Setting : Bool → ℕ → Daemon → List Entry → List Sent → Type 0
  Setting true d e log ms = IsDone e log ms
  Setting false d e log ms = IsSetting d e log ms ⊎ HasSet d e log ms

  pub record IsPushing (d : ℕ) (e : Daemon) (log : List Entry) (ms : List Sent) : Type 0 where
    pub ends : Ends log
    pub holds : HasLog e ends.front
    pub is : ms ≡ between p d (Append 1 (length log) ends.sealed) ∷ []

  pub record HasPushed (d : ℕ) (e : Daemon) (log : List Entry) (ms : List Sent) : Type 0 where
    pub holds : HasLog e log
    pub is : ms ≡ between d p (Appended 1 (length log)) ∷ []

  abbrev pub Pushing : Bool → ℕ → Daemon → List Entry → List Sent → Type 0
  Pushing true d e log ms = IsDone e log ms
  Pushing false d e log ms = IsPushing d e log ms ⊎ HasPushed d e log ms

  pub record IsPeered (informed : List PeerInfo) (d : ℕ) (e : Daemon) (ms : List Sent) : Type 0 where
    pub fresh : IsFresh e
    pub peered : Peered (list_any (λ i. i.number == d) informed) d ms

  pub record IsUnasked (e : Daemon) (ms : List Sent) : Type 0 where
    pub fresh : IsFresh e
    pub none : ms ≡ []

  abbrev pub Stage : Role → List Entry → ℕ → Daemon → List Sent → Type 0
  Stage Idle log d e ms = IsUnasked e ms
  Stage (Peering informed) log d e ms = IsPeered informed d e ms
  Stage (Installing done) log d e ms = Setting (is_in done d) d e log ms
  Stage (Active None) log d e ms = IsDone e log ms
  Stage (Active (Some holders)) log d e ms = Pushing (is_in holders d) d e log ms

  pub record Member (copies : List Daemon) (role : Role) (log : List Entry) (d : ℕ) (ms : List Sent) : Type 0 where
    pub copy : Daemon
    pub here : slice_get copies d ≡ Some copy
    pub number : copy.number ≡ d
    pub stage : Stage role log d copy ms

  -- what the role of the first has of its own

  pub record IsHearing (informed : List PeerInfo) (c : Daemon) : Type 0 where
    pub none : c.log ≡ []
    pub each : Each (λ i. i.log ≡ []) informed
    pub open_yet : can_choose c informed ≡ false

  pub record IsSpreading (done : List ℕ) (c : Daemon) : Type 0 where
    pub none : c.log ≡ []
    pub open_yet : all_count c done ≡ false

  pub record IsFlying (holders : List ℕ) (c : Daemon) : Type 0 where
    pub ends : Ends c.log
    pub open_yet : all_count c holders ≡ false

  abbrev pub RoleOk : Role → Daemon → Type 0
  RoleOk Idle c = c.promise ≡ 0
  RoleOk (Peering informed) c = IsHearing informed c
  RoleOk (Installing done) c = IsSpreading done c
  RoleOk (Active None) c = c.waiting ≡ []
  RoleOk (Active (Some holders)) c = IsFlying holders c

  -- messages

  pub record IsRound (m : Sent) : Type 0 where
    pub member : ℕ
    pub among : is_in os member ≡ true
    pub about : concerns member m ≡ true

  pub record IsNews (m : Sent) : Type 0 where
    pub member : ℕ
    pub among : is_in os member ≡ true
    pub is : m ≡ to_daemon member (Interval ((p ∷ os) ∷ []))

  pub record IsRequest (m : Sent) : Type 0 where
    pub sealed : Sealed
    pub is : m ≡ to_daemon p (Request sealed)

  pub record IsReply (m : Sent) : Type 0 where
    pub id : ℕ
    pub reply : EntryReply
    pub is : m ≡ record { from = Osd p; to = Client; body = Reply id reply }

  abbrev pub Usual : Sent → Type 0
  Usual m = IsRound m ⊎ (IsNews m ⊎ (IsRequest m ⊎ IsReply m))

  -- groups

  pub record Running (g : Group) (wire : List Sent) (c : Daemon) : Type 0 where
    pub primary : slice_get g.copies p ≡ Some c
    pub members : (d : ℕ) → is_in os d ≡ true → Member g.copies c.role c.log d (filter (concerns d) wire)
    pub once : (id : ℕ) → of_id id g.requests ≤ 1
    pub asked : (id : ℕ) → asks id wire + of_id id c.waiting + logs id c.log ≡ of_id id g.requests
    pub told : (id : ℕ) → logs id (decided_by c.role c.log) ≡ replies id wire + total (λ a. one (a.id == id)) g.answers
    pub order : (sealed_of c.log ++ c.waiting) ++ wants wire ≡ g.requests
    pub said : answers_of (decided_by c.role c.log) ≡ g.answers ++ says wire
    pub role : RoleOk c.role c
    pub sets : g.sets ≡ (p ∷ os) ∷ []
    pub are_up : (d : ℕ) → is_in (p ∷ os) d ≡ true → is_in g.up d ≡ true

  -- the first has not heard of its interval
  pub record Before (g : Group) (due : ℕ) : Type 0 where
    pub rest : List Sent
    pub is : g.wire ≡ to_daemon p (Interval ((p ∷ os) ∷ [])) ∷ rest
    pub usual : Each Usual rest
    pub running : Running g (to_daemon p (Interval ((p ∷ os) ∷ [])) ∷ rest) (blank z p)
    pub owes : due ≡ wire_weight (to_daemon p (Interval ((p ∷ os) ∷ [])) ∷ rest)

  pub record After (g : Group) (due : ℕ) : Type 0 where
    pub base : ℕ
    pub log : List Entry
    pub role : Role
    pub waiting : List Sealed
    pub usual : Each Usual g.wire
    pub running : Running g g.wire (lead_copy base log role waiting)
    pub owes : due ≡ wire_weight g.wire + role_weight role + waiting_weight waiting

  abbrev pub Due : Group → ℕ → Type 0
  Due g due = Before g due ⊎ After g due
