-- Statement: contracts of public calls use it.
-- What reached the client, and the laws of every history.
use Rattle.std.specs.Prelude.{◌≡◌, ℕ, List, ◌++◌, ◌∷◌, Option, None, Some, not}
use Rattle.grant_core.specs.Flat.{Table}
use Rattle.entry_core.specs.Log.{Legal, decide}
use Rattle.entry_core.specs.Laws.{is_denied}
use Rattle.store_core.specs.Deciding.{is_allowed_sealed}
use Rattle.store_core.specs.declared.entry.Entry.{Entry}
use Rattle.store_core.specs.Request.{Sealed}
use Rattle.group_model.specs.Types.{EntryReply}
use Rattle.group_model.specs.Group.{Group, answer_of, submitted}
use Rattle.group_model_whole.specs.Asked.{IsReplied}
use Rattle.group_model_whole.specs.History.{Begins}
use Rattle.world_events.specs.declared.event.Event.{Event}
use Rattle.entry_core.specs.Locality.{group_for}
use Rattle.world_core.specs.World.{World, world_after, world_step, group_at}
use Rattle.world_core.specs.Standing.{IsMerged, AllSubmitted, HasNumbers}

abbrev pub answer_in : Option Group → ℕ → Option EntryReply
answer_in None id = None
answer_in (Some g) id = answer_of g.answers id

abbrev pub answer_to : List Group → ℕ → Option Sealed → Option EntryReply
answer_to groups id None = None
answer_to groups id (Some s) = answer_in (group_at (group_for s) groups) id

-- the reply to the request of a number that reached the client first
abbrev pub answer_at : World → ℕ → Option EntryReply
answer_at w id = answer_to w.groups id (submitted w.front.submissions id)

-- whatever happens, in whatever order: what was decided is one legal list, made of the groups' own lists, of requests that were submitted;
-- ids must have room for the numbers of all requests
pub record IsOneList (w : World) : Type 0 where
  pub legal : Legal w.audit
  pub merged : IsMerged w
  pub submitted : AllSubmitted w
  pub answered : (id : ℕ) (reply : EntryReply) → answer_at w id ≡ Some reply → IsReplied w.audit id reply

abbrev pub DecidedIsOneList : Type 0
DecidedIsOneList = (table : Table) (daemons : ℕ) (events : List Event) → HasNumbers (world_after table daemons events) → IsOneList (world_after table daemons events)

-- what was decided stays, and more comes after it
abbrev pub AuditGrows : Type 0
AuditGrows = (w : World) (e : Event) → Begins w.audit (world_step w e).audit

-- each answer stands
abbrev pub AnswersStand : Type 0
AnswersStand = (w : World) (e : Event) (id : ℕ) (reply : EntryReply) → answer_at w id ≡ Some reply → answer_at (world_step w e) id ≡ Some reply

-- a reply is what the store of all entries before it decides on the request, whichever groups they were of
pub record IsDecidedIn (audit : List Entry) (s : Sealed) (reply : EntryReply) : Type 0 where
  pub before : List Entry
  pub entry : Entry
  pub after : List Entry
  pub whole : before ++ entry ∷ after ≡ audit
  pub asks : entry.sealed ≡ s
  pub is : entry.reply ≡ reply
  pub decided : reply ≡ (decide before s).reply
  pub denied : is_denied reply ≡ not (is_allowed_sealed s)

-- what the client was answered: to a request that was submitted under that number, sealed with its ticket and view at its submission,
-- the reply that one store without daemons or groups gives at its place; denied just where the ticket does not allow it
pub record IsAnswered (w : World) (id : ℕ) (reply : EntryReply) : Type 0 where
  pub request : Sealed
  pub submitted_one : submitted w.front.submissions id ≡ Some request
  pub decided : IsDecidedIn w.audit request reply

abbrev pub AnswersAreDecided : Type 0
AnswersAreDecided = (table : Table) (daemons : ℕ) (events : List Event) (id : ℕ) (reply : EntryReply) → HasNumbers (world_after table daemons events)
    → answer_at (world_after table daemons events) id ≡ Some reply → IsAnswered (world_after table daemons events) id reply
