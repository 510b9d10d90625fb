-- Statement: contracts of public calls use it.
-- What a script writes: line by line, what its events and questions answer.
use Prim.Native.Nat.{zero, suc}
use Rattle.std.specs.Prelude.{◌≡◌, ℕ, ◌+◌, ◌-◌, ◌<◌, ◌≤◌, List, [], ◌∷◌, ◌++◌, Bool, true, false, ◌&&◌, if◌then◌else◌, Option, None, Some, Result, Ok, Err, length, take, fold, nat_lt, codes, decimal}
use Rattle.std.specs.List.{flat_map}
use Rattle.std.specs.Option.{option_map, option_or}
use Rattle.std.specs.Io.KnownBytes.{Appends, Keeps}
use Rattle.script_text.specs.Lines.{script_lines, is_blank}
use Rattle.script_text.specs.Streams.{AppendsPart, fits}
use Rattle.script_text.specs.Text.{line, numeral}
use Rattle.script_text.specs.declared.fault.ScriptFault.{ScriptFault}
use Rattle.script_text.specs.declared.fault.ScriptFault.TheVariants as ends
use Rattle.grant_core.specs.BuiltIn.{built_in}
use Rattle.auth_db.specs.Users.{user_at}
use Rattle.auth_db.specs.Refusals.{known_refusal}
use Rattle.map_core.specs.Map.{map_of, epoch_of, view_at}
use Rattle.map_core.specs.Refusal as map_tests
use Rattle.map_core.specs.declared.pool.PoolView.{PoolView}
use Rattle.place_core.specs.Placement.{group_of}
use Rattle.store_core.specs.Request.{Sealed}
use Rattle.store_core.specs.declared.reply.Reply.{Reply}
use Rattle.store_core.specs.declared.sealed.GroupId.{GroupId}
use Rattle.group_model.specs.Group.{Group, submitted}
use Rattle.group_model.specs.Budget.{budget}
use Rattle.group_model.specs.Recovery.{is_ready}
use Rattle.world_events.specs.declared.event.Ask.{Ask}
use Rattle.world_events.specs.declared.event.Event.{Event}
use Rattle.world_events.specs.declared.fault.WorldFault.{WorldFault as Fault}
use Rattle.world_events.specs.declared.fault.WorldFault.TheVariants.{NoRequest, BadObjectName, Auth as OfUsers, Map as OfMap}
use Rattle.world_events.specs.declared.event.Event.TheVariants as happens
use Rattle.world_front.specs.ControlPlane.{ControlPlane, told_of, is_object_name, is_namespace, group_refusal}
use Rattle.world_core.specs.World.{World, first_world, group_at, members_of, world_step, refusal_of, is_drop}
use Rattle.world_front.specs.Groups.{groups_of}
use Rattle.world_core.specs.Answers.{answer_at}
use Rattle.world_front.specs.ControlPlane.{list_at}
use Rattle.world_core.specs.Listing.{listing_of}
use Rattle.world_script.specs.declared.command.Command.{Command}
use Rattle.world_script.specs.declared.command.Command.TheVariants.{Osds, Happens, Submit, List as ListNames, Locate, ShowUser, ListUsers, Tick, Settle, KickAll, LoseAll, Answer, Listing, Ready}
use Rattle.world_script.specs.Command.{read_line}
use Rattle.script_printing.specs.Text.{id_text, told_text, refused_text, or_refused, asked_text, user_shown, users_text, located_text, ready_text}

-- ---- lines, one after another

-- what a command does: it prints and goes on, its line is bad, or it is a command that is not described here
pub data Step (S : Type 0) : Type 0 where
  Goes : List ℕ → S → Step S
  IsBad : Step S
  IsOther : Step S

-- how a script ends: at its end, at a bad line, or at a line with a command that is not described here
pub data Ending : Type 0 where
  Whole : Ending
  BadAt : ℕ → Ending
  OtherAt : ℕ → Ending

pub record Output : Type 0 where
  pub text : List ℕ
  pub ending : Ending

abbrev pub stepped : {S : Type 0} → (S → Command → Step S) → S → Option Command → Step S
stepped step s None = IsBad
stepped step s (Some command) = step s command

-- empty lines and notes print nothing, whatever they hold
abbrev pub line_step : {S : Type 0} → (S → Command → Step S) → S → List ℕ → Step S
line_step step s text = if is_blank text then Goes [] s else stepped step s (read_line text)

abbrev pub behind : List ℕ → Output → Output
behind text o = record { text = text ++ o.text; ending = o.ending }

abbrev pub onward : {S : Type 0} → Step S → ℕ → (S → Output) → Output
onward (Goes text s) number rest = behind text (rest s)
onward IsBad number rest = record { text = []; ending = BadAt number }
onward IsOther number rest = record { text = []; ending = OtherAt number }

-- what lines write, after `taken` earlier lines
abbrev pub outputs : {S : Type 0} → (S → Command → Step S) → List (List ℕ) → ℕ → S → Output
outputs step [] taken s = record { text = []; ending = Whole }
outputs step (l ∷ ls) taken s = onward (line_step step s l) (taken + 1) (outputs step ls (taken + 1))

abbrev pub output_of : {S : Type 0} → (S → Command → Step S) → S → List ℕ → Output
output_of step s bytes = outputs step (script_lines bytes) 0 s

abbrev pub kept : {S : Type 0} → Step S → Step (Option S)
kept (Goes text s) = Goes text (Some s)
kept IsBad = IsBad
kept IsOther = IsOther

-- a script begins with its number of daemons, once
abbrev pub begins : {S : Type 0} → (ℕ → S) → (S → Command → Step S) → Option S → Command → Step (Option S)
begins new step None (Osds daemons) = Goes (line (codes "epoch 1")) (Some (new daemons))
begins new step None command = IsBad
begins new step (Some s) (Osds daemons) = IsBad
begins new step (Some s) command = kept (step s command)

-- ---- what the front answers

abbrev pub ask_now : ControlPlane → (tick session : ℕ) → (pool namespace : List ℕ) → Ask
ask_now front tick session pool namespace = record { session = session; epoch = epoch_of front.history; tick = tick; pool = pool; namespace = namespace }

abbrev pub place : List ℕ → ℕ → GroupId
place pool number = record { pool = pool; number = number }

-- the groups, pool after pool, by their numbers
abbrev pub places : ControlPlane → List GroupId
places front = flat_map groups_of (map_of front.history).pools

abbrev pub located : ControlPlane → (pool namespace object : List ℕ) → Option PoolView → List ℕ
located front pool namespace object None = []
located front pool namespace object (Some view) =
    located_text (group_of namespace object view.pg_num) (members_of (map_of front.history) (place pool (group_of namespace object view.pg_num)))

abbrev pub name_refusal : (namespace object : List ℕ) → Option Fault
name_refusal namespace object = if is_object_name object && is_namespace namespace then None else Some BadObjectName

abbrev pub locate_refusal : ControlPlane → (pool namespace object : List ℕ) → Option Fault
locate_refusal front pool namespace object =
    option_or (option_map OfMap (map_tests.view_refusal front.history pool (epoch_of front.history))) (name_refusal namespace object)

abbrev pub locate_text : ControlPlane → (pool namespace object : List ℕ) → List ℕ
locate_text front pool namespace object =
    or_refused (locate_refusal front pool namespace object) (located front pool namespace object (view_at front.history pool (epoch_of front.history)))

abbrev pub show_text : ControlPlane → List ℕ → List ℕ
show_text front name = or_refused (option_map OfUsers (known_refusal front.database.users name)) (user_shown name (user_at front.database.users name))

-- ---- answers and lists, by the submissions and what they were answered

abbrev pub answer_found : Option Sealed → Option Reply → Result (Option Reply) Fault
answer_found None answer = Err NoRequest
answer_found (Some s) answer = Ok answer

abbrev pub answer_in : ControlPlane → (ℕ → Option Reply) → ℕ → Result (Option Reply) Fault
answer_in front answer id = answer_found (submitted front.submissions id) (answer id)

abbrev pub listing_found : {P : Type 0} → (P → Option Reply) → Option P → Result (Option Reply) Fault
listing_found listing None = Err NoRequest
listing_found listing (Some p) = Ok (listing p)

abbrev pub listing_in : ControlPlane → (ℕ → Option Reply) → ℕ → Result (Option Reply) Fault
listing_in front answer first = listing_found (listing_of answer) (list_at front first)

-- ---- events on every group

abbrev pub budget_in : Option Group → ℕ
budget_in None = 0
budget_in (Some g) = budget g

abbrev pub has_messages : Option Group → Bool
has_messages None = false
has_messages (Some g) = nat_lt 0 (length g.wire)

-- the event, and those of the world after it, where the test holds
abbrev pub events_while : Bool → Event → World → (World → List Event) → List Event
events_while false e w next = []
events_while true e w next = e ∷ next (world_step w e)

-- an event on message 0 of a group again and again until none is left, at most so often
abbrev pub emptied_within : (GroupId → ℕ → Event) → GroupId → ℕ → World → List Event
emptied_within event id zero w = []
emptied_within event id (suc most) w = events_while (has_messages (group_at id w.groups)) (event id 0) w (emptied_within event id most)

-- until none is left: each delivery and each loss lowers the budget
abbrev pub emptied : (GroupId → ℕ → Event) → GroupId → World → List Event
emptied event id w = emptied_within event id (budget_in (group_at id w.groups)) w

abbrev pub kicked : GroupId → World → List Event
kicked id w = happens.Kick id ∷ []

-- the events of each group in turn
abbrev pub on_each : (GroupId → World → List Event) → List GroupId → World → List Event
on_each events [] w = []
on_each events (id ∷ ids) w = events id w ++ on_each events ids (fold world_step w (events id w))

abbrev pub settle_events : World → List Event
settle_events w = on_each (emptied happens.Deliver) (places w.front) w

abbrev pub lose_events : World → List Event
lose_events w = on_each (emptied happens.Lose) (places w.front) w

abbrev pub kick_events : World → List Event
kick_events w = on_each kicked (places w.front) w

abbrev pub one_if_none : Option Fault → ℕ
one_if_none None = 1
one_if_none (Some fault) = 0

-- how many events nothing refuses where they stand: of deliveries, those that reach their addressee
abbrev pub unrefused : World → List Event → ℕ
unrefused w [] = 0
unrefused w (e ∷ es) = one_if_none (refusal_of w e) + unrefused (world_step w e) es

-- ---- what a line does to a world

-- the world, and the stamp of the requests that follow
pub record Machine : Type 0 where
  pub world : World
  pub tick : ℕ

-- what a line prints, what happens, and the stamp behind it
pub record Line : Type 0 where
  pub text : List ℕ
  pub events : List Event
  pub tick : ℕ

-- nothing happens
abbrev pub prints : Machine → List ℕ → Line
prints m text = record { text = text; events = []; tick = m.tick }

abbrev pub does : Machine → List ℕ → List Event → Line
does m text events = record { text = text; events = events; tick = m.tick }

abbrev pub event_told : Machine → Event → Option Fault → Line
event_told m e None = does m (line (told_text (told_of m.world.front e))) (e ∷ [])
event_told m e (Some fault) = does m (refused_text fault) (if is_drop e fault then e ∷ [] else [])

abbrev pub event_line : Machine → Event → Line
event_line m e = event_told m e (refusal_of m.world e)

abbrev pub settle_line : Machine → Line
settle_line m = does m (line (codes "settled " ++ numeral (unrefused m.world (settle_events m.world)))) (settle_events m.world)

abbrev pub ready_in : Option Group → Bool
ready_in None = false
ready_in (Some g) = is_ready g

abbrev pub ready_line_text : World → GroupId → List ℕ
ready_line_text w id = or_refused (group_refusal w.front id) (ready_text (ready_in (group_at id w.groups)))

-- the line of a command on a world
abbrev pub line_of : Machine → Command → Line
line_of m (Osds daemons) = prints m []
line_of m (Happens e) = event_line m e
line_of m (Submit session pool namespace object ops) = event_line m (happens.Submit (ask_now m.world.front m.tick session pool namespace) object ops)
line_of m (ListNames session pool namespace) = event_line m (happens.List (ask_now m.world.front m.tick session pool namespace))
line_of m (Locate pool namespace object) = prints m (locate_text m.world.front pool namespace object)
line_of m (ShowUser name) = prints m (show_text m.world.front name)
line_of m ListUsers = prints m (users_text m.world.front.database.users)
line_of m (Tick tick) = record { text = line (codes "tick " ++ decimal tick); events = []; tick = tick }
line_of m Settle = settle_line m
line_of m KickAll = does m (line (codes "ok")) (kick_events m.world)
line_of m LoseAll = does m (line (codes "ok")) (lose_events m.world)
line_of m (Answer id) = prints m (asked_text (id_text id) (answer_in m.world.front (answer_at m.world) id))
line_of m (Listing id) = prints m (asked_text (id_text id) (listing_in m.world.front (answer_at m.world) id))
line_of m (Ready id) = prints m (ready_line_text m.world id)

-- the world after the events of a line
abbrev pub after_line : Machine → Line → Machine
after_line m l = record { world = fold world_step m.world l.events; tick = l.tick }

abbrev pub goes : Machine → Line → Step Machine
goes m l = Goes l.text (after_line m l)

abbrev pub machine_step : Machine → Command → Step Machine
machine_step m command = goes m (line_of m command)

abbrev pub first_machine : ℕ → Machine
first_machine daemons = record { world = first_world built_in daemons; tick = 0 }

abbrev pub script_step : Option Machine → Command → Step (Option Machine)
script_step = begins first_machine machine_step

-- what a script writes
abbrev pub script_output : List ℕ → Output
script_output bytes = output_of script_step None bytes

-- ---- what was written

-- by how the script ended: all of it, what the lines before a bad line print, a beginning, or nothing
abbrev pub Wrote : Output → Option (List ℕ) → Option (List ℕ) → Result (Unit {0}) ScriptFault → Type 0
Wrote output old new (Ok done) = (output.ending ≡ Whole) × Appends old new output.text
Wrote output old new (Err (ends.BadLine number)) = (output.ending ≡ BadAt number) × Appends old new output.text
Wrote output old new (Err ends.Write) = AppendsPart old new output.text
Wrote output old new (Err (ends.OutOfMemory number)) = AppendsPart old new output.text
Wrote output old new (Err ends.Read) = Keeps old new
Wrote output old new (Err ends.TooMuch) = Keeps old new

-- what the script of an input has written
abbrev pub WroteOf : List ℕ → Option (List ℕ) → Option (List ℕ) → Result (Unit {0}) ScriptFault → Type 0
WroteOf input old new result = Wrote (script_output input) old new result

-- ---- why a script ended

-- what the lines before the line of this number write: lines count from 1
abbrev pub output_before : ℕ → List ℕ → Output
output_before number bytes = outputs script_step (take (number - 1) (script_lines bytes)) 0 None

-- memory ran out at this line, or at 0 while the script was read: what the lines before it print was written
pub record RunsOutAt (input : List ℕ) (old new : Option (List ℕ)) (number : ℕ) : Type 0 where
  pub inside : number ≤ length (script_lines input)
  pub goes : (output_before number input).ending ≡ Whole
  pub wrote : Appends old new (output_before number input).text

-- Only a script of at most 1,048,576 bytes is carried out, and only a longer one is too much. Where memory runs out,
-- the number says how far the script came
abbrev pub EndsFor : List ℕ → Option (List ℕ) → Option (List ℕ) → Result (Unit {0}) ScriptFault → Type 0
EndsFor input old new (Ok done) = fits input
EndsFor input old new (Err (ends.BadLine number)) = fits input
EndsFor input old new (Err ends.Write) = fits input
EndsFor input old new (Err (ends.OutOfMemory number)) = (1 ≤ number → fits input) × RunsOutAt input old new number
EndsFor input old new (Err ends.Read) = Unit {0}
EndsFor input old new (Err ends.TooMuch) = 1048576 < length input

-- the script was not read: nothing was written
abbrev pub KeepsUnread : Option (List ℕ) → Option (List ℕ) → ScriptFault → Type 0
KeepsUnread old new ends.Read = Keeps old new
KeepsUnread old new ends.TooMuch = Keeps old new
KeepsUnread old new (ends.OutOfMemory number) = number ≡ 0 → Keeps old new
KeepsUnread old new (ends.BadLine number) = Unit {0}
KeepsUnread old new ends.Write = Unit {0}
