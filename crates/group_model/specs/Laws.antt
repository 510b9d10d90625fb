-- Statement: contracts of public calls use it.
-- The laws of groups that send suffixes, each over any group that there can be, in the words of those of groups that send whole logs.
use Rattle.std.specs.Prelude.{ℕ, ◌≡◌, ◌≤◌, ◌+◌, ◌*◌, List, [], map, length, replicate, slice_get, Some, None}
use Rattle.entry_core.specs.Log.{reply_in}
use Rattle.store_core.specs.Request.{Sealed}
use Rattle.group_model_whole.specs.History.{Begins, but_last}
use Rattle.group_model_whole.specs.Asked.{IsReplied}
use Rattle.group_model_whole.specs.Quiet.{opening_cost, request_cost}
use Rattle.group_model_whole.specs.Calm.{unserved_cost, log_of, answer_with}
use Rattle.group_model_whole.specs.Laws.{GoesToOther}
use Rattle.group_model.specs.Types.{Idle, Append, Copy, Osd, Sent, EntryReply}
use Rattle.group_model.specs.Group.{Group, Event, Submit, Deliver, Lose, EventFits, run, start, group_step, refusal_of, answer_of, settle}
use Rattle.group_model.specs.Reached.{IsReached}
use Rattle.group_model.specs.Budget.{budget, settled_group, settle_count}
use Rattle.group_model.specs.Open.{HasHistory}
use Rattle.group_model.specs.Quiet.{IsServed, made_by, deliveries_made}
use Rattle.group_model.specs.Calm.{IsUnserved, IsCalmGroup}

-- whatever happens to the group only adds: what was decided begins what is decided later, each answer stands, and it stays a group that there can be
pub record OnlyAdds (g : Group) : Type 0 where
  pub audit : (events : List Event) → Begins g.audit (run events g).audit
  pub answers : (events : List Event) (id : ℕ) (reply : EntryReply) → answer_of g.answers id ≡ Some reply → answer_of (run events g).answers id ≡ Some reply
  pub reached : (e : Event) → EventFits e → IsReached (group_step g e)

-- each answer is the reply that was decided under its number
abbrev pub AnswersAreDecided : Group → Type 0
AnswersAreDecided g = (id : ℕ) (reply : EntryReply) → answer_of g.answers id ≡ Some reply → IsReplied g.audit id reply

-- what came of a group: it is the same placement group, wants as many members, and has these requests
pub record IsSameGroup (g : Group) (these : List Sealed) (after : Group) : Type 0 where
  pub group : after.group ≡ g.group
  pub min_size : after.min_size ≡ g.min_size
  pub requests : after.requests ≡ these

-- Each delivery and each loss lowers the budget, so delivering message 0 again and again ends: it leaves an empty wire after as many deliveries as the
-- budget at most, and more change nothing
pub record SettlingEnds (g : Group) : Type 0 where
  pub delivers : (k : ℕ) (m : Sent) → slice_get g.wire k ≡ Some m → budget (group_step g (Deliver k)) + 1 ≤ budget g
  pub loses : (k : ℕ) (m : Sent) → slice_get g.wire k ≡ Some m → budget (group_step g (Lose k)) + 1 ≤ budget g
  pub empties : (settled_group g).wire ≡ []
  pub counts : settle_count g ≤ budget g
  pub runs : (n : ℕ) → settle n g ≡ run (replicate n (Deliver 0)) g
  pub stops : (n : ℕ) → budget g ≤ n → settle n g ≡ settled_group g
  pub rests : g.wire ≡ [] → (settled_group g ≡ g) × (settle_count g ≡ 0)

-- all but the last entry of a copy's log was decided, and no event takes more than the last entry from a copy
pub record OneEntryIsOpen (g : Group) : Type 0 where
  pub history : HasHistory g
  pub decided : (d : ℕ) (copy : Copy) → slice_get g.copies d ≡ Some copy → Begins (but_last copy.log) g.audit
  pub keeps : (e : Event) (d : ℕ) (before after : Copy) → slice_get g.copies d ≡ Some before → slice_get (group_step g e).copies d ≡ Some after → Begins (but_last before.log) after.log

-- Each `Append` on its way goes from the primary of its interval to another member. So if its receiver promised that
-- interval, the receiver has no role: nothing is in flight there
pub record AppendsGoToOthers (g : Group) : Type 0 where
  pub goes : (k n place : ℕ) (s : Sealed) (m : Sent) → slice_get g.wire k ≡ Some m → m.body ≡ Append n place s → GoesToOther g.sets n m.from m.to
  pub idle : (k place : ℕ) (s : Sealed) (m : Sent) (d : ℕ) (c : Copy) → slice_get g.wire k ≡ Some m → m.to ≡ Osd d → slice_get g.copies d ≡ Some c → m.body ≡ Append c.promise place s → c.role ≡ Idle

-- the number of deliveries that calm events made from the beginning on
abbrev pub made_so_far : {min_size count : ℕ} {acting up : List ℕ} {g : Group} → IsCalmGroup min_size count acting up g → ℕ
made_so_far {min_size} {count} {acting} {up} calm = deliveries_made calm.events (start calm.group min_size count acting up)

-- It settles, and every request is answered: of m members in 5 * m - 4 deliveries for the opening and 2 * m for each request, less those that were made
pub record ServesInTime (members made : ℕ) (g : Group) : Type 0 where
  pub served : IsServed g
  pub counted : made + settle_count g ≡ opening_cost members + request_cost members * length g.requests
  pub one_more : (s : Sealed) → refusal_of g (Submit s) ≡ None → settle_count (group_step g (Submit s)) ≡ settle_count g + request_cost members
  pub at_most : settle_count g ≤ 21 + 10 * length g.requests

-- once it settled, its requests were decided in order of submission, each on the store that those before it made, and its answers are these decisions
pub record DecidesInOrder (g : Group) : Type 0 where
  pub order : map (λ e. e.sealed) (settled_group g).audit ≡ g.requests
  pub decided : (settled_group g).audit ≡ log_of g.requests
  pub answers : (settled_group g).answers ≡ map answer_with (log_of g.requests)
  pub answered : (id : ℕ) → answer_of (settled_group g).answers id ≡ reply_in (log_of g.requests) id

-- it settles, and nothing is answered: each member hears of the set, and each request goes to the primary and back, where there is one
pub record AnswersNothing (members made : ℕ) (g : Group) : Type 0 where
  pub unserved : IsUnserved g
  pub counted : made + settle_count g ≡ members + unserved_cost members * length g.requests
  pub one_more : (s : Sealed) → refusal_of g (Submit s) ≡ None → settle_count (group_step g (Submit s)) ≡ settle_count g + unserved_cost members

-- an event that is taken as a request adds its deliveries to those that are due, a delivery takes one of them, and nothing else changes their number
abbrev pub KeepsCount : ℕ → Group → Event → Type 0
KeepsCount cost g e = made_by g e + settle_count (group_step g e) + cost * length g.requests ≡ settle_count g + cost * length (group_step g e).requests
