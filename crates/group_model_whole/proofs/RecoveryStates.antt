-- What a group that settles is still on its way to do. With an empty wire it says that every request is answered.
use Rattle.std.proofs.Common.{ℕ, ◌≡◌, ◌≤◌, ◌<◌, true, false, List, [], ◌∷◌, length, ◌⊎◌}
use Rattle.std.specs.Prelude.{Some, None, slice_get}
use Rattle.entry_core.specs.Log.{is_in}
use Rattle.store_core.specs.Request.{Sealed}
use Rattle.store_core.specs.declared.entry.Entry.{Entry}
use Rattle.group_model_whole.specs.ActingSets.{set_of, is_primary, asked, others, all_count}
use Rattle.group_model_whole.specs.Decided.{last}
use Rattle.group_model_whole.specs.Choice.{can_choose, is_informed}
use Rattle.group_model_whole.specs.Types.{Role, Idle, Peering, Installing, Active, Daemon, Query, Info, Install, Installed, Append, Appended, Request, Reply, Party, Client, Osd, Sent, EntryReply}
use Rattle.group_model_whole.specs.Each.{Each}
use Rattle.group_messages.specs.Answers.{Answer}
use Rattle.group_model_whole.specs.Group.{Group, last_set, is_answered}
use Rattle.group_model_whole.specs.Recovering.{HasUp}

-- a fact of some element
abbrev pub Any : {X : Type 0} → (X → Type 0) → List X → Type 0
Any P [] = ⊥
Any P (x ∷ xs) = P x ⊎ Any P xs

-- a copy asks d, or d reports to the copy
pub record IsToldBy (c : Daemon) (d : ℕ) (m : Sent) : Type 0 where
  pub base : ℕ
  pub log : List Entry
  pub is : m ≡ record { from = Osd d; to = Osd c.number; body = Info c.promise base log }

abbrev pub IsAsking : Daemon → ℕ → Sent → Type 0
IsAsking c d m = (m ≡ record { from = Osd c.number; to = Osd d; body = Query c.promise }) ⊎ IsToldBy c d m

-- its log goes to d, or d has it
pub record IsSetting (c : Daemon) (d : ℕ) (m : Sent) : Type 0 where
  pub log : List Entry
  pub is : m ≡ record { from = Osd c.number; to = Osd d; body = Install c.promise log }

abbrev pub IsInstallingAt : Daemon → ℕ → Sent → Type 0
IsInstallingAt c d m = IsSetting c d m ⊎ (m ≡ record { from = Osd d; to = Osd c.number; body = Installed c.promise })

-- its last entry goes to d, or d has it
pub record IsPushing (c : Daemon) (d : ℕ) (m : Sent) : Type 0 where
  pub entry : Entry
  pub is_last : last c.log ≡ Some entry
  pub is : m ≡ record { from = Osd c.number; to = Osd d; body = Append c.promise (length c.log) entry.sealed }

abbrev pub IsAppendingAt : Daemon → ℕ → Sent → Type 0
IsAppendingAt c d m = IsPushing c d m ⊎ (m ≡ record { from = Osd d; to = Osd c.number; body = Appended c.promise (length c.log) })

-- what a copy with this role waits for is on its way
abbrev pub RoleDue : List ℕ → List Sent → Daemon → Role → Type 0
RoleDue up wire c Idle = ⊥
RoleDue up wire c (Peering informed) = (can_choose c informed ≡ false) ×
    ((d : ℕ) → is_in (asked c) d ≡ true → is_in up d ≡ true → (is_informed c informed d ≡ true) ⊎ Any (IsAsking c d) wire)
RoleDue up wire c (Installing done) = (all_count c done ≡ false) ×
    ((d : ℕ) → is_in (others c) d ≡ true → (is_in done d ≡ true) ⊎ Any (IsInstallingAt c d) wire)
RoleDue up wire c (Active None) = c.waiting ≡ []
RoleDue up wire c (Active (Some holders)) = (all_count c holders ≡ false) ×
    ((d : ℕ) → is_in (others c) d ≡ true → (is_in holders d ≡ true) ⊎ Any (IsAppendingAt c d) wire)

-- a request of that number to the copy
pub record IsRequest (p id : ℕ) (m : Sent) : Type 0 where
  pub from : Party
  pub request : Sealed
  pub same : request.id ≡ id
  pub is : m ≡ record { from = from; to = Osd p; body = Request request }

-- a reply to that number
pub record IsReply (id : ℕ) (m : Sent) : Type 0 where
  pub from : Party
  pub reply : EntryReply
  pub is : m ≡ record { from = from; to = Client; body = Reply id reply }

abbrev pub IsFor : ℕ → ℕ → Sent → Type 0
IsFor p id m = IsRequest p id m ⊎ IsReply id m

-- the last entry is of that number
pub record IsEntryOf (log : List Entry) (id : ℕ) : Type 0 where
  pub entry : Entry
  pub is_last : last log ≡ Some entry
  pub same : entry.sealed.id ≡ id

abbrev pub InFlight : Role → List Entry → ℕ → Type 0
InFlight Idle log id = ⊥
InFlight (Peering informed) log id = ⊥
InFlight (Installing done) log id = ⊥
InFlight (Active None) log id = ⊥
InFlight (Active (Some holders)) log id = IsEntryOf log id

-- it waits at the copy, or is in flight there
abbrev pub IsTaken : Daemon → ℕ → Type 0
IsTaken c id = Any (λ w. w.id ≡ id) c.waiting ⊎ InFlight c.role c.log id

abbrev pub RequestDue : List Answer → List Sent → ℕ → Daemon → ℕ → Type 0
RequestDue answers wire p c id = (is_answered answers id ≡ true) ⊎ (Any (IsFor p id) wire ⊎ IsTaken c id)

-- the group is on its way: p leads the last interval, and c is its copy
pub record Progress (g : Group) (p : ℕ) (c : Daemon) : Type 0 where
  pub first : is_primary (last_set g.sets) p ≡ true
  pub here : slice_get g.copies p ≡ Some c
  pub promised : c.promise ≡ length g.sets
  pub role : RoleDue g.up g.wire c c.role
  pub requests : Each (λ s. RequestDue g.answers g.wire p c s.id) g.requests

pub record HasCopy (g : Group) (d : ℕ) : Type 0 where
  pub copy : Daemon
  pub here : slice_get g.copies d ≡ Some copy

-- a copy that is up has a base after j
pub record HasLater (g : Group) (j : ℕ) : Type 0 where
  pub daemon : ℕ
  pub copy : Daemon
  pub here : slice_get g.copies daemon ≡ Some copy
  pub is_up : is_in g.up daemon ≡ true
  pub later : j < copy.base

-- the premises: the last two fields are those of the theorem
pub record CanOpen (g : Group) : Type 0 where
  pub daemons_exist : (j d : ℕ) → is_in (set_of g.sets j) d ≡ true → HasCopy g d
  pub daemons_few : (d : ℕ) (c : Daemon) → slice_get g.copies d ≡ Some c → d < 16
  pub based : (d : ℕ) (c : Daemon) → slice_get g.copies d ≡ Some c → 1 ≤ c.base → is_in (set_of g.sets c.base) d ≡ true
  pub last_up : (d : ℕ) → is_in (last_set g.sets) d ≡ true → is_in g.up d ≡ true
  pub members : g.min_size ≤ length (last_set g.sets)
  pub ready : (j : ℕ) → 1 ≤ j → j < length g.sets → g.min_size ≤ length (set_of g.sets j) → HasUp g.up (set_of g.sets j) ⊎ HasLater g j

-- a role that does what it can at once
abbrev pub RoleIsPrompt : Daemon → Role → Type 0
RoleIsPrompt c Idle = Unit {0}
RoleIsPrompt c (Peering informed) = can_choose c informed ≡ false
RoleIsPrompt c (Installing done) = all_count c done ≡ false
RoleIsPrompt c (Active None) = c.waiting ≡ []
RoleIsPrompt c (Active (Some holders)) = all_count c holders ≡ false

-- the copy that leads the last interval has not heard of it, or has its role there
abbrev pub IsLeader : List (List ℕ) → Daemon → Type 0
IsLeader sets c = ((c.promise < length sets) × (length c.known < length sets)) ⊎ ((c.promise ≡ length sets) × (c.role ≡ Idle → ⊥))

-- what every group keeps where each acting set lay within the daemons that were up, and the last set is large enough
pub record IsPrompt (g : Group) : Type 0 where
  pub roles : (d : ℕ) (c : Daemon) → slice_get g.copies d ≡ Some c → RoleIsPrompt c c.role
  pub leader : (d : ℕ) (c : Daemon) → is_primary (last_set g.sets) d ≡ true → slice_get g.copies d ≡ Some c → IsLeader g.sets c

abbrev pub AllAnswered : Group → Type 0
AllAnswered g = Each (λ s. is_answered g.answers s.id ≡ true) g.requests
