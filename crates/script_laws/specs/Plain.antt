-- Statement: contracts of public calls use it.
-- Plain scripts, without groups, copies and messages: one store for all, and requests that wait for the next settling.
-- No line of them names a message, and no group has a second interval.
use Rattle.std.specs.Prelude.{◌≡◌, ℕ, ◌+◌, ◌*◌, List, [], ◌∷◌, ◌++◌, Bool, true, false, not, if◌then◌else◌, nat_le, Option, None, Some, Result, length, fold, codes, decimal, is_some}
use Rattle.std.specs.List.{filter, list_any, find}
use Rattle.std.specs.Option.{option_map_or}
use Rattle.std.specs.FinMap.{empty}
use Rattle.script_text.specs.Text.{line, numeral}
use Rattle.script_text.specs.declared.fault.ScriptFault.{ScriptFault}
use Rattle.grant_core.specs.BuiltIn.{built_in}
use Rattle.map_core.specs.State.{MapState}
use Rattle.map_core.specs.Map.{map_of, after, is_named}
use Rattle.map_core.specs.Intervals.{set_of, begun}
use Rattle.map_core.specs.declared.pool.Pool.{Pool}
use Rattle.map_core.specs.declared.command.MapCommand.{MapCommand}
use Rattle.store_core.specs.Request.{Sealed}
use Rattle.store_core.specs.Store.{Store}
use Rattle.store_core.specs.Deciding.{Decision, decision_on, name_of}
use Rattle.store_core.specs.Objects.{changed}
use Rattle.store_core.specs.declared.reply.Reply.{Reply}
use Rattle.store_core.specs.declared.sealed.GroupId.{GroupId}
use Rattle.group_model.specs.Group.{answer_of}
use Rattle.group_messages.specs.Answers.{Answer}
use Rattle.group_model_whole.specs.Quiet.{opening_cost, request_cost}
use Rattle.group_model_whole.specs.Calm.{unserved_cost}
use Rattle.world_events.specs.declared.event.Event.{Event}
use Rattle.world_events.specs.declared.fault.WorldFault.{WorldFault as Fault}
use Rattle.world_events.specs.declared.event.Event.TheVariants.{Map, Deliver, Lose, Repeat, Kick}
use Rattle.world_events.specs.declared.event.Event.TheVariants as happens
use Rattle.world_front.specs.Groups.{is_same_group, is_for}
use Rattle.world_front.specs.ControlPlane.{ControlPlane, first_front, front_step, front_refusal, sealed_by, told_of, group_refusal}
use Rattle.world_core.specs.World.{members_of}
use Rattle.world_script.specs.declared.command.Command.{Command}
use Rattle.world_script.specs.declared.command.Command.TheVariants.{Osds, Happens, Submit, List as ListNames, Locate, ShowUser, ListUsers, Tick, Settle, KickAll, LoseAll, Answer as AskAnswer, Listing, Ready}
use Rattle.script_printing.specs.Text.{id_text, told_text, refused_text, or_refused, asked_text, users_text, ready_text}
use Rattle.world_script.specs.Script.{Step, Goes, IsOther, Ending, Whole, BadAt, OtherAt, Output, output_of, begins, ask_now, places, locate_text, show_text, answer_in, listing_in, script_output, Wrote, WroteOf}

-- how objects are kept: what is decided on a request, and what is kept then
pub record Keeping (S : Type 0) : Type 0 where
  pub nothing : S
  pub decide : S → Sealed → Reply × S

abbrev pub of_decision : Store → Sealed → Decision → Reply × Store
of_decision store s d = (d.entry.reply, changed store (name_of s) d.change)

-- in the store of the definitions
abbrev pub in_store : Keeping Store
in_store = record { nothing = empty; decide = λ store s. of_decision store s (decision_on store s) }

pub record PlainIn (S : Type 0) : Type 0 where
  pub front : ControlPlane
  pub tick : ℕ
  pub objects : S
  pub pending : List Sealed  -- without an answer, in order of submission
  pub fresh : List Sealed  -- submitted since the last settling
  pub opened : List GroupId  -- the places that were settled before
  pub answers : List Answer

abbrev pub Plain : Type 0
Plain = PlainIn Store

abbrev pub first_in : {S : Type 0} → Keeping S → ℕ → PlainIn S
first_in k daemons = record { front = first_front built_in daemons; tick = 0; objects = k.nothing; pending = []; fresh = []; opened = []; answers = [] }

-- ---- settling

abbrev pub with_reply : {S : Type 0} → PlainIn S → Sealed → Reply × S → PlainIn S
with_reply p s r = record p { objects = r.1; answers = p.answers ++ record { id = s.id; reply = r.0 } ∷ [] }

-- the one store decides
abbrev pub decides_in : {S : Type 0} → Keeping S → PlainIn S → Sealed → PlainIn S
decides_in k p s = with_reply p s (k.decide p.objects s)

-- the requests of one group, in order of submission
abbrev pub serves_in : {S : Type 0} → Keeping S → GroupId → PlainIn S → PlainIn S
serves_in k id p = fold (decides_in k) (record p { pending = filter (λ s. not (is_for id s)) p.pending }) (filter (is_for id) p.pending)

-- the deliveries of one group: with m members 5 m - 4 for its opening and 2 m for each request
abbrev pub serving_cost : ℕ → Bool → ℕ → ℕ
serving_cost members is_open requests = (if is_open then 0 else opening_cost members) + request_cost members * requests

-- below its least size, one for each member, and 2 for each new request where there is a member
abbrev pub waiting_cost : ℕ → Bool → ℕ → ℕ
waiting_cost members is_open requests = (if is_open then 0 else members) + unserved_cost members * requests

-- the least size of a place's pool
abbrev pub least_of : MapState → GroupId → ℕ
least_of state id = option_map_or (λ (p : Pool). p.min_size) (find (is_named id.pool) state.pools) 0

-- whether the acting set of a place is large enough
abbrev pub is_enough : ControlPlane → GroupId → Bool
is_enough front id = nat_le (least_of (map_of front.history) id) (length (members_of (map_of front.history) id))

abbrev pub members_count : ControlPlane → GroupId → ℕ
members_count front id = length (members_of (map_of front.history) id)

abbrev pub is_open : {S : Type 0} → PlainIn S → GroupId → Bool
is_open p id = list_any (is_same_group id) p.opened

-- the deliveries that a place costs
abbrev pub cost : {S : Type 0} → PlainIn S → GroupId → ℕ
cost p id =
    if is_enough p.front id then serving_cost (members_count p.front id) (is_open p id) (length (filter (is_for id) p.pending))
    else waiting_cost (members_count p.front id) (is_open p id) (length (filter (is_for id) p.fresh))

pub record SettledIn (S : Type 0) : Type 0 where
  pub plain : PlainIn S
  pub count : ℕ

abbrev pub settles_in : {S : Type 0} → Keeping S → SettledIn S → GroupId → SettledIn S
settles_in k c id = record { plain = if is_enough c.plain.front id then serves_in k id c.plain else c.plain; count = c.count + cost c.plain id }

-- place after place
abbrev pub settles_all_in : {S : Type 0} → Keeping S → PlainIn S → SettledIn S
settles_all_in k p = fold (settles_in k) (record { plain = p; count = 0 }) (places p.front)

abbrev pub rested : {S : Type 0} → PlainIn S → PlainIn S
rested p = record p { fresh = []; opened = places p.front }

abbrev pub settled_step : {S : Type 0} → SettledIn S → Step (PlainIn S)
settled_step c = Goes (line (codes "settled " ++ numeral c.count)) (rested c.plain)

-- ---- events

-- a change of the map that begins an interval of a group that is there
abbrev pub moves : MapState → MapCommand → GroupId → Bool
moves state command id = is_some (begun command (set_of state id.pool id.number) (set_of (after state command) id.pool id.number))

abbrev pub is_move : ControlPlane → Event → Bool
is_move front (Map command) = list_any (moves (map_of front.history) command) (places front)
is_move front e = false

-- what names a message, or kicks
abbrev pub is_message : Event → Bool
is_message (Deliver id k) = true
is_message (Lose id k) = true
is_message (Repeat id k) = true
is_message (Kick id) = true
is_message e = false

abbrev pub asks : {S : Type 0} → PlainIn S → Event → PlainIn S
asks p e = record p { front = front_step p.front e; pending = p.pending ++ sealed_by p.front e; fresh = p.fresh ++ sealed_by p.front e }

abbrev pub accepted : {S : Type 0} → PlainIn S → Event → Step (PlainIn S)
accepted p e = if is_move p.front e then IsOther else Goes (line (told_text (told_of p.front e))) (asks p e)

abbrev pub judged : {S : Type 0} → PlainIn S → Event → Option Fault → Step (PlainIn S)
judged p e None = accepted p e
judged p e (Some fault) = Goes (refused_text fault) p

abbrev pub plain_event : {S : Type 0} → PlainIn S → Event → Step (PlainIn S)
plain_event p e = if is_message e then IsOther else judged p e (front_refusal p.front e)

-- ---- lines

abbrev pub tells : {S : Type 0} → PlainIn S → List ℕ → Step (PlainIn S)
tells p text = Goes text p

abbrev pub ready_plain : {S : Type 0} → PlainIn S → GroupId → List ℕ
ready_plain p id = or_refused (group_refusal p.front id) (ready_text (is_enough p.front id))

abbrev pub plain_step_in : {S : Type 0} → Keeping S → PlainIn S → Command → Step (PlainIn S)
plain_step_in k p (Osds daemons) = tells p []
plain_step_in k p (Happens e) = plain_event p e
plain_step_in k p (Submit session pool namespace object ops) = plain_event p (happens.Submit (ask_now p.front p.tick session pool namespace) object ops)
plain_step_in k p (ListNames session pool namespace) = plain_event p (happens.List (ask_now p.front p.tick session pool namespace))
plain_step_in k p (Locate pool namespace object) = tells p (locate_text p.front pool namespace object)
plain_step_in k p (ShowUser name) = tells p (show_text p.front name)
plain_step_in k p ListUsers = tells p (users_text p.front.database.users)
plain_step_in k p (Tick tick) = Goes (line (codes "tick " ++ decimal tick)) (record p { tick = tick })
plain_step_in k p Settle = settled_step (settles_all_in k p)
plain_step_in k p KickAll = IsOther
plain_step_in k p LoseAll = IsOther
plain_step_in k p (AskAnswer id) = tells p (asked_text (id_text id) (answer_in p.front (answer_of p.answers) id))
plain_step_in k p (Listing id) = tells p (asked_text (id_text id) (listing_in p.front (answer_of p.answers) id))
plain_step_in k p (Ready id) = tells p (ready_plain p id)

abbrev pub output_in : {S : Type 0} → Keeping S → List ℕ → Output
output_in k bytes = output_of (begins (first_in k) (plain_step_in k)) None bytes

-- ---- over the store of the definitions

abbrev pub Settled : Type 0
Settled = SettledIn Store

abbrev pub first_plain : ℕ → Plain
first_plain = first_in in_store

abbrev pub decides : Plain → Sealed → Plain
decides = decides_in in_store

abbrev pub serves : GroupId → Plain → Plain
serves = serves_in in_store

abbrev pub settles : Settled → GroupId → Settled
settles = settles_in in_store

abbrev pub settles_all : Plain → Settled
settles_all = settles_all_in in_store

abbrev pub plain_step : Plain → Command → Step Plain
plain_step = plain_step_in in_store

-- what a plain script writes
abbrev pub plain_output : List ℕ → Output
plain_output bytes = output_in in_store bytes

-- ---- the law

-- at its end or at a bad line, and not at a line that no plain script has
abbrev pub IsPlain : Ending → Type 0
IsPlain Whole = Unit {0}
IsPlain (BadAt number) = Unit {0}
IsPlain (OtherAt number) = ⊥

-- what a plain script writes on a world is what one store without groups, copies and messages writes
abbrev pub PlainScriptsPrint : Type 0
PlainScriptsPrint = (bytes : List ℕ) → IsPlain (plain_output bytes).ending → script_output bytes ≡ plain_output bytes

-- the lines before one that no plain script has print the same, whatever comes behind them
abbrev pub PlainBeginnings : Type 0
PlainBeginnings = (bytes : List ℕ) → (rest : List ℕ) × ((plain_output bytes).text ++ rest ≡ (script_output bytes).text)

-- so plain_output gives what a plain script has written, however it ended
abbrev pub PlainScriptsWrite : Type 0
PlainScriptsWrite = (bytes : List ℕ) (old new : Option (List ℕ)) (result : Result (Unit {0}) ScriptFault) → IsPlain (plain_output bytes).ending → WroteOf bytes old new result → Wrote (plain_output bytes) old new result
