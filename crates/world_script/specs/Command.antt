-- Statement: contracts of public calls use it.
-- The commands of a script, by the words of their lines: this project's profile, after Ceph's command line.
use Prim.Native.Nat.{zero, suc}
use Rattle.std.specs.Prelude.{ℕ, min, List, [], ◌∷◌, true, false, ◌&&◌, if◌then◌else◌, nat_le, Option, None, Some, length, codes}
use Rattle.std.specs.Option.{option_map, option_and_then}
use Rattle.std.specs.Str.{bytes_eq}
use Rattle.script_text.specs.Words.{words_of}
use Rattle.script_text.specs.Numbers.{number_of, pair_of}
use Rattle.map_core.specs.declared.command.MapCommand.{MapCommand}
use Rattle.map_core.specs.declared.command.MapCommand.TheVariants.{PoolCreate, AppEnable, AppSet, AppRm, OsdUp, OsdDown, OsdRestart}
use Rattle.object_core.specs.declared.op.Op.{Op}
use Rattle.object_core.specs.declared.op.Op.TheVariants as op
use Rattle.auth_db.specs.declared.caps.Caps.{Caps}
use Rattle.store_core.specs.declared.sealed.GroupId.{GroupId}
use Rattle.world_front.specs.ControlPlane.{id_of}
use Rattle.world_events.specs.declared.event.AuthCommand.{AuthCommand}
use Rattle.world_events.specs.declared.event.Event.TheVariants as happens
use Rattle.world_events.specs.declared.event.AuthCommand.TheVariants as on_users
pub use Rattle.world_script.specs.declared.command.Command.{Command}
pub use Rattle.world_script.specs.declared.command.Command.TheVariants.{Osds, Happens, Submit, List as ListNames, Locate, ShowUser, ListUsers, Tick, Settle, KickAll, LoseAll, Answer, Listing, Ready}

abbrev pub Word : Type 0
Word = List ℕ

-- what the first words say, with the words behind them; none where they say nothing
abbrev pub Reads : Type 0 → Type 0
Reads A = List Word → Option (A × List Word)

abbrev pub said : {A : Type 0} → A → Reads A
said x ws = Some (x, ws)

-- what is read first, and then what is read behind it
abbrev pub and_then : {A B : Type 0} → Option (A × List Word) → (A → Reads B) → Option (B × List Word)
and_then None next = None
and_then (Some first) next = next first.0 first.1

abbrev pub said_if : {A : Type 0} → Option A → Reads A
said_if None ws = None
said_if (Some x) ws = Some (x, ws)

-- ---- parts of commands

abbrev pub a_word : Reads Word
a_word [] = None
a_word (w ∷ ws) = Some (w, ws)

abbrev pub a_number : Reads ℕ
a_number [] = None
a_number (w ∷ ws) = said_if (number_of w) ws

-- a request's id, by its session and its number there
abbrev pub an_id : Reads ℕ
an_id [] = None
an_id (w ∷ ws) = said_if (option_map (λ p. id_of p.0 p.1) (pair_of w)) ws

-- a daemon's number; numbers from 16 on name no daemon, so all from 255 on are read as 255
abbrev pub a_daemon : Reads ℕ
a_daemon ws = and_then (a_number ws) (λ daemon. said (min daemon 255))

abbrev pub a_group : Reads GroupId
a_group ws =
    and_then (a_word ws) (λ pool ws.
    and_then (a_number ws) (λ number.
    said (record { pool = pool; number = number })))

-- nothing, or until and a tick
abbrev pub an_end : Reads (Option ℕ)
an_end [] = Some (None, [])
an_end (w ∷ ws) = if bytes_eq w (codes "until") then and_then (a_number ws) (λ tick. said (Some tick)) else None

-- ---- texts of users

abbrev pub no_texts : Caps
no_texts = record { mon = None; mgr = None; mds = None; osd = None }

-- the text, where there was none
abbrev pub if_new : Option Word → Caps → Option Caps
if_new None caps = Some caps
if_new (Some old) caps = None

-- one more text, of a type that has none
abbrev pub with_text : Word → Word → Caps → Option Caps
with_text type text caps =
    if bytes_eq type (codes "mon") then if_new caps.mon (record caps { mon = Some text })
    else if bytes_eq type (codes "mgr") then if_new caps.mgr (record caps { mgr = Some text })
    else if bytes_eq type (codes "mds") then if_new caps.mds (record caps { mds = Some text })
    else if bytes_eq type (codes "osd") then if_new caps.osd (record caps { osd = Some text })
    else None

-- types, each with its text, up to the end
abbrev pub texts_onto : Option Caps → List Word → Option Caps
texts_onto None ws = None
texts_onto (Some caps) [] = Some caps
texts_onto (Some caps) (type ∷ []) = None
texts_onto (Some caps) (type ∷ text ∷ ws) = texts_onto (with_text type text caps) ws

abbrev pub texts : Reads Caps
texts ws = said_if (texts_onto (Some no_texts) ws) []

-- ---- operations

abbrev pub read_op : Reads Op
read_op ws =
    and_then (a_number ws) (λ offset ws.
    and_then (a_number ws) (λ len.
    said (op.Read offset len)))

abbrev pub write_op : Reads Op
write_op ws =
    and_then (a_number ws) (λ offset ws.
    and_then (a_word ws) (λ bytes.
    said (op.Write offset bytes)))

abbrev pub write_full_op : Reads Op
write_full_op ws = and_then (a_word ws) (λ bytes. said (op.WriteFull bytes))

abbrev pub append_op : Reads Op
append_op ws = and_then (a_word ws) (λ bytes. said (op.Append bytes))

abbrev pub truncate_op : Reads Op
truncate_op ws = and_then (a_number ws) (λ size. said (op.Truncate size))

abbrev pub get_attribute_op : Reads Op
get_attribute_op ws = and_then (a_word ws) (λ name. said (op.GetAttribute name))

abbrev pub remove_attribute_op : Reads Op
remove_attribute_op ws = and_then (a_word ws) (λ name. said (op.RemoveAttribute name))

abbrev pub set_attribute_op : Reads Op
set_attribute_op ws =
    and_then (a_word ws) (λ name ws.
    and_then (a_word ws) (λ value.
    said (op.SetAttribute name value)))

abbrev pub call_op : Reads Op
call_op ws =
    and_then (a_word ws) (λ class ws.
    and_then (a_word ws) (λ method ws.
    and_then (a_word ws) (λ input.
    said (op.Call class method input))))

abbrev pub changing_op_named : Word → Reads Op
changing_op_named w ws =
    if bytes_eq w (codes "write") then write_op ws
    else if bytes_eq w (codes "writefull") then write_full_op ws
    else if bytes_eq w (codes "append") then append_op ws
    else if bytes_eq w (codes "truncate") then truncate_op ws
    else if bytes_eq w (codes "remove") then said op.Remove ws
    else if bytes_eq w (codes "create") then said (op.Create false) ws
    else if bytes_eq w (codes "create-exclusive") then said (op.Create true) ws
    else None

abbrev pub op_named : Word → Reads Op
op_named w ws =
    if bytes_eq w (codes "read") then read_op ws
    else if bytes_eq w (codes "stat") then said op.Stat ws
    else if bytes_eq w (codes "getxattr") then get_attribute_op ws
    else if bytes_eq w (codes "setxattr") then set_attribute_op ws
    else if bytes_eq w (codes "rmxattr") then remove_attribute_op ws
    else if bytes_eq w (codes "call") then call_op ws
    else changing_op_named w ws

abbrev pub an_op : Reads Op
an_op ws = and_then (a_word ws) op_named

-- behind an operation: the end, or a plus and what this reads behind it
abbrev pub ops_behind : Op → List Word → (List Word → Option (List Op)) → Option (List Op)
ops_behind o [] next = Some (o ∷ [])
ops_behind o (w ∷ ws) next = if bytes_eq w (codes "+") then option_map (λ os. o ∷ os) (next ws) else None

abbrev pub ops_next : Option (Op × List Word) → (List Word → Option (List Op)) → Option (List Op)
ops_next None next = None
ops_next (Some first) next = ops_behind first.0 first.1 next

-- at most this many operations, with a plus between them, up to the end
abbrev pub ops_within : ℕ → List Word → Option (List Op)
ops_within zero ws = None
ops_within (suc most) ws = ops_next (an_op ws) (ops_within most)

-- each operation takes a word at least
abbrev pub ops : Reads (List Op)
ops ws = said_if (ops_within (length ws) ws) []

-- ---- commands

-- a change of the map

abbrev pub changing : Option MapCommand → Option Command
changing None = None
changing (Some command) = Some (Happens (happens.Map command))

abbrev pub change : Option (MapCommand × List Word) → Option (Command × List Word)
change found = and_then found (λ command. said (Happens (happens.Map command)))

abbrev pub enable_application : Reads MapCommand
enable_application ws =
    and_then (a_word ws) (λ pool ws.
    and_then (a_word ws) (λ app.
    said (AppEnable pool app)))

abbrev pub set_application : Reads MapCommand
set_application ws =
    and_then (a_word ws) (λ pool ws.
    and_then (a_word ws) (λ app ws.
    and_then (a_word ws) (λ key ws.
    and_then (a_word ws) (λ value.
    said (AppSet pool app key value)))))

abbrev pub remove_application : Reads MapCommand
remove_application ws =
    and_then (a_word ws) (λ pool ws.
    and_then (a_word ws) (λ app ws.
    and_then (a_word ws) (λ key.
    said (AppRm pool app key))))

abbrev pub application_named : Word → Reads MapCommand
application_named w ws =
    if bytes_eq w (codes "enable") then enable_application ws
    else if bytes_eq w (codes "set") then set_application ws
    else if bytes_eq w (codes "rm") then remove_application ws
    else None

abbrev pub application : Reads MapCommand
application ws = and_then (a_word ws) application_named

abbrev pub create_pool : Reads MapCommand
create_pool ws =
    and_then (a_word ws) (λ name ws.
    and_then (a_number ws) (λ pg_num ws.
    and_then (a_number ws) (λ size ws.
    and_then (a_number ws) (λ min_size.
    said (PoolCreate name pg_num size min_size)))))

abbrev pub pool_named : Word → Reads MapCommand
pool_named w ws =
    if bytes_eq w (codes "create") then create_pool ws
    else if bytes_eq w (codes "application") then application ws
    else None

abbrev pub pool : Reads MapCommand
pool ws = and_then (a_word ws) pool_named

abbrev pub up : Reads MapCommand
up ws = and_then (a_daemon ws) (λ daemon. said (OsdUp daemon))

abbrev pub down : Reads MapCommand
down ws = and_then (a_daemon ws) (λ daemon. said (OsdDown daemon))

abbrev pub restart : Reads MapCommand
restart ws = and_then (a_daemon ws) (λ daemon. said (OsdRestart daemon))

abbrev pub locate : Reads Command
locate ws =
    and_then (a_word ws) (λ pool ws.
    and_then (a_word ws) (λ namespace ws.
    and_then (a_word ws) (λ object.
    said (Locate pool namespace object))))

abbrev pub osd_named : Word → Reads Command
osd_named w ws =
    if bytes_eq w (codes "pool") then change (pool ws)
    else if bytes_eq w (codes "up") then change (up ws)
    else if bytes_eq w (codes "down") then change (down ws)
    else if bytes_eq w (codes "restart") then change (restart ws)
    else if bytes_eq w (codes "map") then locate ws
    else None

abbrev pub osd : Reads Command
osd ws = and_then (a_word ws) osd_named

-- a change of the users

abbrev pub changing_users : Option AuthCommand → Option Command
changing_users None = None
changing_users (Some command) = Some (Happens (happens.Auth command))

abbrev pub change_users : Option (AuthCommand × List Word) → Option (Command × List Word)
change_users found = and_then found (λ command. said (Happens (happens.Auth command)))

-- a name and its texts
abbrev pub a_user : Reads (Word × Caps)
a_user ws =
    and_then (a_word ws) (λ name ws.
    and_then (texts ws) (λ caps.
    said (name, caps)))

abbrev pub add_user : Reads AuthCommand
add_user ws = and_then (a_user ws) (λ user. said (on_users.Add user.0 user.1))

abbrev pub set_caps : Reads AuthCommand
set_caps ws = and_then (a_user ws) (λ user. said (on_users.SetCaps user.0 user.1))

abbrev pub get_or_create : Reads AuthCommand
get_or_create ws = and_then (a_user ws) (λ user. said (on_users.GetOrCreate user.0 user.1))

abbrev pub delete_user : Reads AuthCommand
delete_user ws = and_then (a_word ws) (λ name. said (on_users.Delete name))

abbrev pub show_user : Reads Command
show_user ws = and_then (a_word ws) (λ name. said (ShowUser name))

abbrev pub auth_named : Word → Reads Command
auth_named w ws =
    if bytes_eq w (codes "add") then change_users (add_user ws)
    else if bytes_eq w (codes "caps") then change_users (set_caps ws)
    else if bytes_eq w (codes "get-or-create") then change_users (get_or_create ws)
    else if bytes_eq w (codes "del") then change_users (delete_user ws)
    else if bytes_eq w (codes "get") then show_user ws
    else if bytes_eq w (codes "ls") then said ListUsers ws
    else None

abbrev pub auth : Reads Command
auth ws = and_then (a_word ws) auth_named

-- sessions and their requests

abbrev pub open_session : Reads Command
open_session ws =
    and_then (a_word ws) (λ entity ws.
    and_then (an_end ws) (λ until.
    said (Happens (happens.Open entity until))))

abbrev pub renew_session : Reads Command
renew_session ws =
    and_then (a_number ws) (λ session ws.
    and_then (an_end ws) (λ until.
    said (Happens (happens.Renew session until))))

abbrev pub submit : Reads Command
submit ws =
    and_then (a_number ws) (λ session ws.
    and_then (a_word ws) (λ pool ws.
    and_then (a_word ws) (λ namespace ws.
    and_then (a_word ws) (λ object ws.
    and_then (ops ws) (λ os.
    said (Submit session pool namespace object os))))))

abbrev pub list_names : Reads Command
list_names ws =
    and_then (a_number ws) (λ session ws.
    and_then (a_word ws) (λ pool ws.
    and_then (a_word ws) (λ namespace.
    said (ListNames session pool namespace))))

abbrev pub close_session : Reads Command
close_session ws = and_then (a_number ws) (λ session. said (Happens (happens.Close session)))

abbrev pub set_tick : Reads Command
set_tick ws = and_then (a_number ws) (λ tick. said (Tick tick))

-- a message, by its group and its place on the wire
abbrev pub a_message : Reads (GroupId × ℕ)
a_message ws =
    and_then (a_group ws) (λ group ws.
    and_then (a_number ws) (λ place.
    said (group, place)))

abbrev pub deliver : Reads Command
deliver ws = and_then (a_message ws) (λ m. said (Happens (happens.Deliver m.0 m.1)))

abbrev pub lose : Reads Command
lose ws = and_then (a_message ws) (λ m. said (Happens (happens.Lose m.0 m.1)))

abbrev pub send_again : Reads Command
send_again ws = and_then (a_message ws) (λ m. said (Happens (happens.Repeat m.0 m.1)))

abbrev pub answer : Reads Command
answer ws = and_then (an_id ws) (λ id. said (Answer id))

abbrev pub listing : Reads Command
listing ws = and_then (an_id ws) (λ id. said (Listing id))

abbrev pub ready : Reads Command
ready ws = and_then (a_group ws) (λ group. said (Ready group))

-- 1 to 16 daemons
abbrev pub daemons : Reads Command
daemons ws = and_then (a_number ws) (λ count ws. if nat_le 1 count && nat_le count 16 then Some (Osds count, ws) else None)

-- on messages, or what is asked
abbrev pub wire_command_named : Word → Reads Command
wire_command_named w ws =
    if bytes_eq w (codes "deliver") then deliver ws
    else if bytes_eq w (codes "lose") then lose ws
    else if bytes_eq w (codes "repeat") then send_again ws
    else if bytes_eq w (codes "settle") then said Settle ws
    else if bytes_eq w (codes "kick") then said KickAll ws
    else if bytes_eq w (codes "lose-all") then said LoseAll ws
    else if bytes_eq w (codes "answer") then answer ws
    else if bytes_eq w (codes "listing") then listing ws
    else if bytes_eq w (codes "ready") then ready ws
    else None

abbrev pub command_named : Word → Reads Command
command_named w ws =
    if bytes_eq w (codes "osds") then daemons ws
    else if bytes_eq w (codes "osd") then osd ws
    else if bytes_eq w (codes "auth") then auth ws
    else if bytes_eq w (codes "open") then open_session ws
    else if bytes_eq w (codes "renew") then renew_session ws
    else if bytes_eq w (codes "close") then close_session ws
    else if bytes_eq w (codes "tick") then set_tick ws
    else if bytes_eq w (codes "do") then submit ws
    else if bytes_eq w (codes "ls") then list_names ws
    else wire_command_named w ws

-- all words of a line, and none behind
abbrev pub whole : {A : Type 0} → Option (A × List Word) → Option A
whole None = None
whole (Some (x, [])) = Some x
whole (Some (x, w ∷ ws)) = None

abbrev pub command : Reads Command
command ws = and_then (a_word ws) command_named

abbrev pub command_of : List Word → Option Command
command_of ws = whole (command ws)

-- the command of a line that is not blank, or none: the line is bad
abbrev pub read_line : List ℕ → Option Command
read_line line = option_and_then command_of (words_of line)
