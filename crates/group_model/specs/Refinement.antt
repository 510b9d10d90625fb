-- Statement: contracts of public calls use it.
-- The laws of peering by suffixes.
use Rattle.std.specs.Prelude.{ℕ, ◌≡◌, ◌≤◌, true, List, Option, Some, slice_get}
use Rattle.entry_core.specs.Log.{is_in}
use Rattle.store_core.specs.declared.sealed.GroupId.{GroupId}
use Rattle.group_model_whole.specs.ActingSets.{set_of}
use Rattle.group_model_whole.specs.Each.{Each}
use Rattle.group_model_whole.specs.History.{Begins, but_last}
use Rattle.group_model_whole.specs.Asked.{IsReplied}
use Rattle.group_model_whole.specs.Group.{Event, run as whole_run, start as whole_start, refusal_of as whole_refusal_of, settle as whole_settle, delivered as whole_delivered}
use Rattle.group_messages.specs.Answers.{Answer}
use Rattle.group_model.specs.Types.{Active, Copy}
use Rattle.peer_core.specs.Decided.{decided_by}
use Rattle.group_model.specs.Group.{Group, group_step, run, start, refusal_of, settle, delivered}
use Rattle.group_model.specs.Standing.{StandsFor}
use Rattle.group_model.specs.Fits.{FitsAnswerTrue}

-- whatever happens, a group that sends suffixes stands for the one that sends whole logs and to which the same happened
abbrev pub SuffixesRefineWholeLogs : Type 0
SuffixesRefineWholeLogs = (group : GroupId) (min_size count : ℕ) (acting up : List ℕ) (events : List Event) →
    StandsFor (run events (start group min_size count acting up)) (whole_run events (whole_start group min_size count acting up))

-- both refuse the same events, for the same first reason
abbrev pub RefusesAlike : Type 0
RefusesAlike = (group : GroupId) (min_size count : ℕ) (acting up : List ℕ) (events : List Event) (e : Event) →
    refusal_of (run events (start group min_size count acting up)) e ≡ whole_refusal_of (whole_run events (whole_start group min_size count acting up)) e

-- both settle alike, in as many deliveries
abbrev pub SettlesAlike : Type 0
SettlesAlike = (group : GroupId) (min_size count : ℕ) (acting up : List ℕ) (events : List Event) (n : ℕ) →
    StandsFor (settle n (run events (start group min_size count acting up))) (whole_settle n (whole_run events (whole_start group min_size count acting up)))
    × (delivered n (run events (start group min_size count acting up)) ≡ whole_delivered n (whole_run events (whole_start group min_size count acting up)))

-- whatever happened, each log that is fitted next fits
abbrev pub FitAnswersTrue : Type 0
FitAnswersTrue = (group : GroupId) (min_size count : ℕ) (acting up : List ℕ) (events : List Event) →
    FitsAnswerTrue (run events (start group min_size count acting up))

-- a copy before and after: it forgets no promise and no base, and drops no more than the last entry of its log, and none that it showed to be decided
pub record CopyKeeps (old new : Copy) : Type 0 where
  pub promise : old.promise ≤ new.promise
  pub base : old.base ≤ new.base
  pub log : Begins (but_last old.log) new.log
  pub decided : Begins (decided_by old.role old.log) new.log

pub record GroupKeeps (old new : Group) : Type 0 where
  pub copies : (d : ℕ) (c c' : Copy) → slice_get old.copies d ≡ Some c → slice_get new.copies d ≡ Some c' → CopyKeeps c c'
  pub audit : Begins old.audit new.audit

-- whatever happened and whatever happens next
abbrev pub PromisesAreKept : Type 0
PromisesAreKept = (group : GroupId) (min_size count : ℕ) (acting up : List ℕ) (events : List Event) (e : Event) →
    GroupKeeps (run events (start group min_size count acting up)) (group_step (run events (start group min_size count acting up)) e)

-- no member of the interval that the copy promised has a greater promise
abbrev pub IsLatest : Group → Copy → Type 0
IsLatest g c = (m : ℕ) (other : Copy) → is_in (set_of g.sets c.promise) m ≡ true → slice_get g.copies m ≡ Some other → other.promise ≤ c.promise

pub record GroupHolds (g : Group) : Type 0 where
  -- of each log all but the last entry was decided
  pub open_last : (d : ℕ) (c : Copy) → slice_get g.copies d ≡ Some c → Begins (but_last c.log) g.audit
  -- where an active copy is the latest, what was decided begins the log of each member of its interval
  pub replicated : (d : ℕ) (c : Copy) (flight : Option (List ℕ)) → slice_get g.copies d ≡ Some c → c.role ≡ Active flight → IsLatest g c →
      (m : ℕ) (other : Copy) → is_in (set_of g.sets c.promise) m ≡ true → slice_get g.copies m ≡ Some other → Begins g.audit other.log
  -- an answer is the reply that was decided
  pub answers : Each (λ (a : Answer). IsReplied g.audit a.id a.reply) g.answers

-- so what was answered stands in every log that is active next
abbrev pub DecidedIsHeld : Type 0
DecidedIsHeld = (group : GroupId) (min_size count : ℕ) (acting up : List ℕ) (events : List Event) →
    GroupHolds (run events (start group min_size count acting up))
