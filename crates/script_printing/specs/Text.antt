-- Statement: contracts of public calls use it.
-- The printed texts of a script: this project's profile.
use Rattle.std.specs.Prelude.{ℕ, ◌/◌, ◌%◌, List, ◌++◌, Bool, Option, None, Some, Result, Ok, Err, if◌then◌else◌, length, codes, decimal, []}
use Rattle.std.specs.List.{flat_map}
use Rattle.std.specs.Map.{keys_of}
use Rattle.script_text.specs.Text.{line, item, quoted}
use Rattle.request_types.specs.Text.{report_line}
use Rattle.request_types.specs.declared.request.Condition.{Condition}
use Rattle.auth_db.specs.Users.{Users}
use Rattle.auth_db.specs.declared.caps.Caps.{Caps}
use Rattle.store_core.specs.declared.reply.Reply.{Reply}
use Rattle.store_core.specs.declared.reply.Reply.TheVariants as reply
use Rattle.store_core.specs.Request.{numbers}
use Rattle.world_events.specs.declared.event.Told.{Told}
use Rattle.world_events.specs.declared.event.Told.TheVariants.{Done, Made, There, Epoch, Session as OfSession, Request, List as Pieces}
use Rattle.world_events.specs.declared.fault.WorldFault.{WorldFault as Fault}
use Rattle.world_events.specs.Printed.{fault_text}

-- a request's session, and its number there
abbrev pub id_text : ℕ → List ℕ
id_text id = decimal (id / numbers) ++ (codes "." ++ decimal (id % numbers))

-- ---- what an event tells

abbrev pub told_text : Told → List ℕ
told_text Done = codes "ok"
told_text Made = codes "made"
told_text There = codes "there"
told_text (Epoch epoch) = codes "epoch " ++ decimal epoch
told_text (OfSession session) = codes "session " ++ decimal session
told_text (Request id) = codes "request " ++ id_text id
told_text (Pieces first count) = codes "list " ++ (id_text first ++ (codes " " ++ decimal count))

-- ---- why it is refused

abbrev pub refused_text : Fault → List ℕ
refused_text fault = line (codes "refused " ++ fault_text fault)

-- what was asked for, or why it is refused
abbrev pub or_refused : Option Fault → List ℕ → List ℕ
or_refused None text = text
or_refused (Some fault) text = refused_text fault

-- ---- replies

-- a text between double quotes, as a line of its own
abbrev pub quoted_item : List ℕ → List ℕ
quoted_item text = item (quoted text)

-- a grant's path and the condition that the request failed
abbrev pub denied_item : List ℕ × Condition → List ℕ
denied_item entry = codes "- " ++ report_line entry

abbrev pub reply_text : List ℕ → Reply → List ℕ
reply_text id (reply.Done outputs) = line (id ++ codes " ok") ++ flat_map quoted_item outputs
reply_text id (reply.Failed place number) = line (id ++ (codes " error " ++ (decimal number ++ (codes " at " ++ decimal place))))
reply_text id (reply.Denied report) = line (id ++ codes " denied") ++ flat_map denied_item report
reply_text id (reply.Names names) = line (id ++ codes " names") ++ flat_map quoted_item names

-- an answer or a list, by its number
abbrev pub answer_text : List ℕ → Option Reply → List ℕ
answer_text id None = line (id ++ codes " waiting")
answer_text id (Some found) = reply_text id found

abbrev pub asked_text : List ℕ → Result (Option Reply) Fault → List ℕ
asked_text id (Ok answer) = answer_text id answer
asked_text id (Err fault) = refused_text fault

-- ---- users and places

abbrev pub text_item : List ℕ → Option (List ℕ) → List ℕ
text_item type None = []
text_item type (Some text) = item (type ++ (codes " " ++ quoted text))

-- a user's name and its texts
abbrev pub user_text : List ℕ → Caps → List ℕ
user_text name caps = line name ++ (text_item (codes "mon") caps.mon ++ (text_item (codes "mgr") caps.mgr ++ (text_item (codes "mds") caps.mds ++ text_item (codes "osd") caps.osd)))

abbrev pub user_shown : List ℕ → Option Caps → List ℕ
user_shown name None = []
user_shown name (Some caps) = user_text name caps

-- how many users there are, and their names
abbrev pub users_text : Users → List ℕ
users_text users = line (codes "users " ++ decimal (length users)) ++ flat_map quoted_item (keys_of users)

-- a group and the members of its acting set
abbrev pub located_text : ℕ → List ℕ → List ℕ
located_text group members = line (codes "group " ++ (decimal group ++ (codes " acting" ++ flat_map (λ member. codes " " ++ decimal member) members)))

abbrev pub ready_text : Bool → List ℕ
ready_text ready = line (if ready then codes "yes" else codes "no")
