-- What holds of a group and of what happened in it, whatever comes.
use Rattle.std.proofs.Common.{ℕ, ◌≡◌, ◌≤◌, ◌<◌, ◌+◌, ◌-◌, true, List, ◌∷◌, ◌++◌, length, ◌⊎◌}
use Rattle.std.specs.Prelude.{Option, Some, None}
use Rattle.entry_core.specs.Log.{is_in}
use Rattle.store_core.specs.Request.{Sealed}
use Rattle.store_core.specs.declared.entry.Entry.{Entry}
use Rattle.group_model_whole.specs.ActingSets.{set_of, is_primary}
use Rattle.group_model_whole.specs.Types.{PeerInfo, Role, Idle, Peering, Installing, Active, Daemon, Body, Interval, Query, Info, Install, Installed, Append, Appended, Request, Reply, NotHere, Party, Osd, Client, Sent}
use Rattle.group_model_whole.specs.Each.{Each}
use Rattle.group_model_whole.specs.History.{Begins, History, Held}
use Rattle.group_model_whole.specs.Offer.{IsTold, IsOffer}

-- these are the first of the sets
pub record IsKnown (sets known : List (List ℕ)) : Type 0 where
  pub fits : length known ≤ length sets
  pub same : (j : ℕ) → 1 ≤ j → j ≤ length known → set_of known j ≡ set_of sets j

-- the copy is the first of the set of the interval that it promised
pub record Leads (min_size : ℕ) (sets : List (List ℕ)) (d : ℕ) (c : Daemon) : Type 0 where
  pub is_known : c.promise ≡ length c.known
  pub later : 1 ≤ c.promise
  pub first : is_primary (set_of sets c.promise) d ≡ true
  pub members : min_size ≤ length (set_of sets c.promise)

-- every member of set n held k entries of its log
abbrev pub AllHold : List (List ℕ) → History → ℕ → ℕ → Type 0
AllHold sets h n k = (m : ℕ) → is_in (set_of sets n) m ≡ true → Held h m n k

pub record IsPeering (min_size : ℕ) (sets : List (List ℕ)) (promise : ℕ → ℕ) (h : History) (d : ℕ) (c : Daemon) (informed : List PeerInfo) : Type 0 where
  pub leads : Leads min_size sets d c
  pub unchosen : h.chosen c.promise ≡ None
  pub offers : Each (IsOffer promise h c.promise) informed

-- the copy's log is all of its interval's log
pub record Owns (min_size : ℕ) (sets : List (List ℕ)) (h : History) (d : ℕ) (c : Daemon) : Type 0 where
  pub leads : Leads min_size sets d c
  pub is_base : c.base ≡ c.promise
  pub whole : c.log ≡ h.grown c.promise

pub record IsInstalling (min_size : ℕ) (sets : List (List ℕ)) (h : History) (d : ℕ) (c : Daemon) (done : List ℕ) : Type 0 where
  pub owns : Owns min_size sets h d c
  pub chosen : h.chosen c.promise ≡ Some c.log
  pub holders : Each (λ m. Held h m c.promise (length c.log)) done

pub record IsFlight (sets : List (List ℕ)) (h : History) (c : Daemon) (holders : List ℕ) : Type 0 where
  pub one : 1 ≤ length c.log
  pub before : AllHold sets h c.promise (length c.log - 1)
  pub holders_hold : Each (λ m. Held h m c.promise (length c.log)) holders

abbrev pub FlightOk : List (List ℕ) → History → Daemon → Option (List ℕ) → Type 0
FlightOk sets h c None = AllHold sets h c.promise (length c.log)
FlightOk sets h c (Some holders) = IsFlight sets h c holders

abbrev pub RoleOk : ℕ → List (List ℕ) → (ℕ → ℕ) → History → ℕ → Daemon → Role → Type 0
RoleOk min_size sets promise h d c Idle = Unit {0}
RoleOk min_size sets promise h d c (Peering informed) = IsPeering min_size sets promise h d c informed
RoleOk min_size sets promise h d c (Installing done) = IsInstalling min_size sets h d c done
RoleOk min_size sets promise h d c (Active flight) = Owns min_size sets h d c × FlightOk sets h c flight

-- the copy of daemon d, without its role
pub record StateOk (min_size : ℕ) (sets : List (List ℕ)) (promise : ℕ → ℕ) (h : History) (d : ℕ) (c : Daemon) : Type 0 where
  pub number : c.number ≡ d
  pub same_size : c.min_size ≡ min_size
  pub promised : promise d ≡ c.promise
  pub reached : c.promise ≤ length sets
  pub base : c.base ≤ c.promise
  pub known : IsKnown sets c.known
  pub source : List Entry
  pub source_is : h.chosen c.base ≡ Some source
  pub begins : Begins source c.log
  pub within : Begins c.log (h.grown c.base)
  pub held : h.held d c.base ≡ Some (length c.log)
  pub held_below : (j k : ℕ) → h.held d j ≡ Some k → j ≤ c.base

pub record CopyOk (min_size : ℕ) (sets : List (List ℕ)) (promise : ℕ → ℕ) (h : History) (d : ℕ) (c : Daemon) : Type 0 where
  pub state : StateOk min_size sets promise h d c
  pub role : RoleOk min_size sets promise h d c c.role

abbrev pub OfOsd : Party → (ℕ → Type 0) → Type 0
OfOsd Client P = Unit {0}
OfOsd (Osd m) P = P m

-- the entry at that place of interval n's log is of that request
pub record IsPlaced (h : History) (n place : ℕ) (s : Sealed) : Type 0 where
  pub front : List Entry
  pub entry : Entry
  pub rest : List Entry
  pub whole : front ++ entry ∷ rest ≡ h.grown n
  pub at : place ≡ length front + 1
  pub is : entry.sealed ≡ s

-- the daemon held the log that interval n began with
pub record HasInstalled (h : History) (m n : ℕ) : Type 0 where
  pub log : List Entry
  pub chosen : h.chosen n ≡ Some log
  pub holds : Held h m n (length log)

abbrev pub BodyOk : List (List ℕ) → (ℕ → ℕ) → History → Party → Body → Type 0
BodyOk sets promise h from (Interval known) = IsKnown sets known
BodyOk sets promise h from (Query n) = n ≤ length sets
BodyOk sets promise h from (Info n base log) = OfOsd from (λ m. IsTold promise h n (record { number = m; base = base; log = log }))
BodyOk sets promise h from (Install n log) = (n ≤ length sets) × (h.chosen n ≡ Some log)
BodyOk sets promise h from (Installed n) = OfOsd from (λ m. HasInstalled h m n)
BodyOk sets promise h from (Append n place s) = IsPlaced h n place s
BodyOk sets promise h from (Appended n place) = OfOsd from (λ m. Held h m n place)
BodyOk sets promise h from (Request s) = Unit {0}
BodyOk sets promise h from (Reply id reply) = Unit {0}
BodyOk sets promise h from (NotHere id) = Unit {0}

abbrev pub SentOk : List (List ℕ) → (ℕ → ℕ) → History → Sent → Type 0
SentOk sets promise h m = BodyOk sets promise h m.from m.body

-- a step of daemon d took the history on
pub record Extends (sets : List (List ℕ)) (d : ℕ) (promise : ℕ → ℕ) (h : History) (promise' : ℕ → ℕ) (h' : History) : Type 0 where
  pub promises : (m : ℕ) → promise m ≤ promise' m
  pub others : (m : ℕ) → (m ≡ d → ⊥) → (promise' m ≡ promise m) × ((j : ℕ) → h'.held m j ≡ h.held m j)
  pub chosen : (n : ℕ) (log : List Entry) → h.chosen n ≡ Some log → (h'.chosen n ≡ Some log) × (h'.basis n ≡ h.basis n)
  pub grows : (n : ℕ) → Begins (h.grown n) (h'.grown n)
  pub frozen : (j : ℕ) → j < promise d → h'.held d j ≡ h.held d j
  pub kept : (j k : ℕ) → Held h d j k → Held h' d j k
  pub by_first : (n : ℕ) → ((h'.chosen n ≡ h.chosen n) × (h'.grown n ≡ h.grown n)) ⊎ (is_primary (set_of sets n) d ≡ true)
