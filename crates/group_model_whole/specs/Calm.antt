-- Statement: contracts of public calls use it.
-- A calm group: it stays in one interval, while daemons outside of its set come, go and restart.
use Prim.Native.Nat.{zero, suc}
use Rattle.std.specs.Prelude.{ℕ, ◌≡◌, ◌<◌, true, false, nat_lt, if◌then◌else◌, List, [], ◌∷◌, ◌++◌, length, take}
use Rattle.entry_core.specs.Log.{is_in, decide}
use Rattle.store_core.specs.Request.{Sealed}
use Rattle.store_core.specs.declared.entry.Entry.{Entry}
use Rattle.group_model_whole.specs.ActingSets.{daemons}
use Rattle.group_model_whole.specs.Each.{Each}
use Rattle.store_core.specs.declared.sealed.GroupId.{GroupId}
use Rattle.group_messages.specs.Answers.{Answer}
use Rattle.group_model_whole.specs.Group.{Group, IsSet, is_submitted, run, start, Event, Submit, Deliver, Lose, Repeat, NewInterval, Restart, Kick}
use Rattle.group_model_whole.specs.Budget.{settled_group}

-- the set is the acting set, and its members are up
pub record KeepsSet (acting set up : List ℕ) : Type 0 where
  pub same : set ≡ acting
  pub live : (d : ℕ) → is_in acting d ≡ true → is_in up d ≡ true

-- the client submits, the oldest message is delivered, daemons come and go outside of the set, or one of these restarts
abbrev pub IsCalm : List ℕ → Event → Type 0
IsCalm acting (Submit s) = Unit {0}
IsCalm acting (Deliver k) = k ≡ 0
IsCalm acting (Lose k) = ⊥
IsCalm acting (Repeat k) = ⊥
IsCalm acting (NewInterval set up) = KeepsSet acting set up
IsCalm acting (Restart d) = is_in acting d ≡ false
IsCalm acting Kick = ⊥

abbrev pub OnlyCalm : List ℕ → List Event → Type 0
OnlyCalm acting events = Each (IsCalm acting) events

-- the log that these requests make after a log, each decided on those before it
abbrev pub log_after : List Entry → List Sealed → List Entry
log_after log [] = log
log_after log (s ∷ requests) = log_after (log ++ decide log s ∷ []) requests

abbrev pub log_of : List Sealed → List Entry
log_of requests = log_after [] requests

-- what an entry answers
abbrev pub answer_with : Entry → Answer
answer_with e = record { id = e.sealed.id; reply = e.reply }

-- the one acting set has too few members to serve; those that it has are among the first count daemons and are up
pub record IsSmall (min_size count : ℕ) (acting up : List ℕ) : Type 0 where
  pub few : length acting < min_size
  pub set : IsSet acting
  pub exist : (d : ℕ) → is_in acting d ≡ true → d < length (take count daemons)
  pub live : (d : ℕ) → is_in acting d ≡ true → is_in up d ≡ true

-- deliveries for one request where m members are too few: it reaches the first, if there is one, which says that it does not serve
abbrev pub unserved_cost : ℕ → ℕ
unserved_cost zero = 0
unserved_cost (suc m) = 2

-- once it settled nothing was answered, nothing was decided, and nothing is on its way
pub record IsUnserved (g : Group) : Type 0 where
  pub unanswered : (settled_group g).answers ≡ []
  pub undecided : (settled_group g).audit ≡ []
  pub empty : (settled_group g).wire ≡ []

-- the requests of a group after an event, by the requests before it alone: the first of its number, as long as there is room
abbrev pub taken : List Sealed → Event → List Sealed
taken requests (Submit s) = if is_submitted requests s.id then requests else (if nat_lt (length requests) 16384 then requests ++ s ∷ [] else requests)
taken requests (Deliver k) = requests
taken requests (Lose k) = requests
taken requests (Repeat k) = requests
taken requests (NewInterval set up) = requests
taken requests (Restart d) = requests
taken requests Kick = requests

abbrev pub all_taken : List Event → List Sealed → List Sealed
all_taken [] requests = requests
all_taken (e ∷ es) requests = all_taken es (taken requests e)

-- calm events make the group from a beginning with that set
pub record IsCalmGroup (min_size count : ℕ) (acting up : List ℕ) (g : Group) : Type 0 where
  pub group : GroupId
  pub events : List Event
  pub calm : OnlyCalm acting events
  pub is : run events (start group min_size count acting up) ≡ g
