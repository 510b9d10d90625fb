-- Statement: contracts of public calls use it.
-- Scripts, worked through: their objects are kept as a plain list, so that they can be computed here.
use Rattle.std.specs.Prelude.{◌≡◌, ℕ, List, [], ◌∷◌, ◌++◌, not, if◌then◌else◌, Option, None, Some, map, codes}
use Rattle.std.specs.List.{filter, flat_map}
use Rattle.std.specs.Ordering.{eq_by_cmp}
use Rattle.std.specs.FinMap.Entries.{find, put, where_key}
use Rattle.object_core.specs.Content.{Content}
use Rattle.object_core.specs.Effect.{effect}
use Rattle.object_core.specs.declared.outcome.Change.{Change}
use Rattle.object_core.specs.declared.outcome.Change.TheVariants.{Kept, Became}
use Rattle.verdict_core.specs.Verdict.{report_of}
use Rattle.store_core.specs.Request.{Sealed, Work, Vector, Listing, target_of, needs_for}
use Rattle.store_core.specs.Store.{ObjectName, name_cmp}
use Rattle.store_core.specs.Deciding.{Answer, name_of, ran, answered, is_listed, is_allowed_sealed}
use Rattle.store_core.specs.declared.reply.Reply.{Reply}
use Rattle.store_core.specs.declared.reply.Reply.TheVariants.{Denied, Names}
use Rattle.world_script.specs.Script.{script_output, Whole, BadAt}
use Rattle.script_laws.specs.Plain.{Keeping}

-- objects in the order of their names
abbrev pub Objects : Type 0
Objects = List (ObjectName × Content)

abbrev pub object_in : Objects → ObjectName → Option Content
object_in os name = find name_cmp name os

abbrev pub with_object_in : Objects → ObjectName → Option Content → Objects
with_object_in os name (Some object) = put name_cmp name object os
with_object_in os name None = where_key name_cmp (λ n. not (eq_by_cmp name_cmp name n)) os

abbrev pub left_in : Objects → ObjectName → Change → Objects
left_in os name Kept = os
left_in os name (Became object) = with_object_in os name object

abbrev pub performed_in : Objects → Sealed → Work → Answer
performed_in os s (Vector object ops) = ran (effect (object_in os (name_of s)) ops)
performed_in os s Listing = answered (Names (map (λ n. n.name) (filter (is_listed s) (map (λ o. o.0) os))))

abbrev pub answer_in : Objects → Sealed → Answer
answer_in os s = if is_allowed_sealed s then performed_in os s s.work else answered (Denied (report_of s.ticket (target_of s) (needs_for s.work) s.tick))

abbrev pub left_by : Objects → Sealed → Answer → Reply × Objects
left_by os s a = (a.reply, left_in os (name_of s) a.change)

-- the definitions' decisions, on a list
abbrev pub in_list : Keeping Objects
in_list = record { nothing = []; decide = λ os s. left_by os s (answer_in os s) }

abbrev pub lines : List (List ℕ) → List ℕ
lines texts = flat_map (λ t. t ++ 10 ∷ []) texts

-- three requests of a user who may read and write, but call nothing
abbrev pub script : List ℕ
script = lines (
    codes "osds 3"
    ∷ codes "osd pool create data 1 3 2"
    ∷ codes "auth get-or-create client.a osd 'allow rw pool=data'"
    ∷ codes "open client.a"
    ∷ codes "osd map data '' x"
    ∷ codes "do 1 data '' x append hello"
    ∷ codes "do 1 data '' x read 0 0"
    ∷ codes "do 1 data '' x call counter add 1"
    ∷ codes "settle"
    ∷ codes "answer 1.1"
    ∷ codes "answer 1.2"
    ∷ codes "answer 1.3" ∷ [])

abbrev pub printed : List ℕ
printed = lines (
    codes "epoch 1"
    ∷ codes "epoch 2"
    ∷ codes "made"
    ∷ codes "session 1"
    ∷ codes "group 0 acting 0 1 2"
    ∷ codes "request 1.1"
    ∷ codes "request 1.2"
    ∷ codes "request 1.3"
    ∷ codes "settled 29"
    ∷ codes "1.1 ok"
    ∷ codes "- \"\""
    ∷ codes "1.2 ok"
    ∷ codes "- \"hello\""
    ∷ codes "1.3 denied"
    ∷ codes "- 1 call 1" ∷ [])

-- users, refusals, a pool with four groups, one with too few daemons, lists, and a line that is no command
abbrev pub longer_script : List ℕ
longer_script = lines (
    codes "# users, tags, refusals"
    ∷ codes "osds 2"
    ∷ []
    ∷ codes "osd down 1"
    ∷ codes "osd pool create data 4 2 1"
    ∷ codes "osd pool create wide 1 2 2"
    ∷ codes "osd pool create data 1 1 1"
    ∷ codes "osd pool application enable data app"
    ∷ codes "osd pool application set data app k v"
    ∷ codes "auth add client.a mon x osd \"allow rw tag app k=v\""
    ∷ codes "auth add client.b osd 'allow r object_prefix a'"
    ∷ codes "auth add client.c osd 'allow rw network x'"
    ∷ codes "auth get client.a"
    ∷ codes "auth ls"
    ∷ codes "open client.a"
    ∷ codes "open client.b"
    ∷ codes "open client.z"
    ∷ codes "do 1 data '' a write 2 hi"
    ∷ codes "do 1 data '' b create + setxattr k v + getxattr k"
    ∷ codes "do 1 data '' c remove"
    ∷ codes "do 1 data '' d read 0 0 + stat"
    ∷ codes "do 2 data '' a stat"
    ∷ codes "do 1 none '' a stat"
    ∷ codes "do 3 data '' a stat"
    ∷ codes "do 1 data '' 'a b' stat"
    ∷ codes "do 1 data '' a call counter drop x"
    ∷ codes "do 1 wide '' w append z"
    ∷ codes "ls 1 data ''"
    ∷ codes "listing 1.6"
    ∷ codes "settle"
    ∷ codes "answer 1.1"
    ∷ codes "answer 1.2"
    ∷ codes "answer 1.3"
    ∷ codes "answer 1.4"
    ∷ codes "answer 1.5"
    ∷ codes "answer 2.1"
    ∷ codes "listing 1.6"
    ∷ codes "answer 9.9"
    ∷ codes "ls 2 data ''"
    ∷ codes "do 1 wide '' w stat"
    ∷ codes "settle"
    ∷ codes "listing 2.2"
    ∷ codes "renew 2"
    ∷ codes "close 2"
    ∷ codes "renew 2"
    ∷ codes "settle"
    ∷ codes "osd map data '' a"
    ∷ codes "osd fly 1" ∷ [])

abbrev pub longer_printed : List ℕ
longer_printed = lines (
    codes "epoch 1"
    ∷ codes "epoch 2"
    ∷ codes "epoch 3"
    ∷ codes "epoch 4"
    ∷ codes "refused M1 PoolExists"
    ∷ codes "epoch 5"
    ∷ codes "epoch 6"
    ∷ codes "ok"
    ∷ codes "ok"
    ∷ codes "refused A5 C7 NetworkClause at 9"
    ∷ codes "client.a"
    ∷ codes "- mon \"x\""
    ∷ codes "- osd \"allow rw tag app k=v\""
    ∷ codes "users 2"
    ∷ codes "- \"client.a\""
    ∷ codes "- \"client.b\""
    ∷ codes "session 1"
    ∷ codes "session 2"
    ∷ codes "refused A3 NoEntity"
    ∷ codes "request 1.1"
    ∷ codes "request 1.2"
    ∷ codes "request 1.3"
    ∷ codes "request 1.4"
    ∷ codes "request 2.1"
    ∷ codes "refused W2 NoPool"
    ∷ codes "refused W1 NoSession"
    ∷ codes "refused W3 BadObjectName"
    ∷ codes "refused N3 NoMethod"
    ∷ codes "request 1.5"
    ∷ codes "list 1.6 4"
    ∷ codes "1.6 waiting"
    ∷ codes "settled 25"
    ∷ codes "1.1 ok"
    ∷ codes "- \"\""
    ∷ codes "1.2 ok"
    ∷ codes "- \"\""
    ∷ codes "- \"\""
    ∷ codes "- \"v\""
    ∷ codes "1.3 error 2 at 1"
    ∷ codes "1.4 error 2 at 1"
    ∷ codes "1.5 waiting"
    ∷ codes "2.1 ok"
    ∷ codes "- \"4\""
    ∷ codes "1.6 names"
    ∷ codes "- \"a\""
    ∷ codes "- \"b\""
    ∷ codes "refused W5 NoRequest"
    ∷ codes "list 2.2 4"
    ∷ codes "request 1.10"
    ∷ codes "settled 10"
    ∷ codes "2.2 denied"
    ∷ codes "- 1 prefix"
    ∷ codes "ok"
    ∷ codes "ok"
    ∷ codes "refused W1 NoSession"
    ∷ codes "settled 0"
    ∷ codes "group 1 acting 0" ∷ [])

-- what these scripts write on a world of groups, copies and messages
unfoldable pub WorkedScript : Type 0
WorkedScript = script_output script ≡ record { text = printed; ending = Whole }

unfoldable pub WorkedLongerScript : Type 0
WorkedLongerScript = script_output longer_script ≡ record { text = longer_printed; ending = BadAt 48 }

-- a group that moves with a request on its way; a tag and a user that are gone before the request is sent again
abbrev pub moved_script : List ℕ
moved_script = lines (
    codes "osds 3"
    ∷ codes "osd pool create data 1 3 2"
    ∷ codes "auth add client.a osd 'allow rwx tag app k=v'"
    ∷ codes "osd pool application enable data app"
    ∷ codes "osd pool application set data app k v"
    ∷ codes "open client.a"
    ∷ codes "do 1 data '' x call counter add 1"
    ∷ codes "osd down 0"
    ∷ codes "osd pool application rm data app k"
    ∷ codes "auth del client.a"
    ∷ codes "settle"
    ∷ codes "renew 1"
    ∷ codes "do 1 data '' x call counter add 1"
    ∷ codes "settle" ∷ [])

abbrev pub moved_printed : List ℕ
moved_printed = lines (
    codes "epoch 1"
    ∷ codes "epoch 2"
    ∷ codes "ok"
    ∷ codes "epoch 3"
    ∷ codes "epoch 4"
    ∷ codes "session 1"
    ∷ codes "request 1.1"
    ∷ codes "epoch 5"
    ∷ codes "epoch 6"
    ∷ codes "ok"
    ∷ codes "settled 12"
    ∷ codes "refused A3 NoEntity"
    ∷ codes "request 1.2"
    ∷ codes "settled 4" ∷ [])

-- messages delivered, lost, repeated and sent again by hand, daemons that go down, come up and restart, and what is refused then
abbrev pub handled_script : List ℕ
handled_script = lines (
    codes "osds 3"
    ∷ codes "osd pool create data 2 3 2"
    ∷ codes "osd pool create small 1 2 2"
    ∷ codes "auth add client.a osd 'allow rwx'"
    ∷ codes "open client.a"
    ∷ codes "do 1 data '' x append a"
    ∷ codes "deliver data 0 0"
    ∷ codes "deliver data 0 99"
    ∷ codes "deliver data 7 0"
    ∷ codes "lose none 0 0"
    ∷ codes "repeat data 1 0"
    ∷ codes "do 1 small '' s append z"
    ∷ codes "osd down 1"
    ∷ codes "deliver data 0 0"
    ∷ codes "settle"
    ∷ codes "kick"
    ∷ codes "settle"
    ∷ codes "do 1 data n y append b"
    ∷ codes "lose-all"
    ∷ codes "settle"
    ∷ codes "kick"
    ∷ codes "settle"
    ∷ codes "osd up 1"
    ∷ codes "osd restart 0"
    ∷ codes "ls 1 data ''"
    ∷ codes "close 1"
    ∷ codes "do 1 data '' x stat"
    ∷ codes "settle"
    ∷ codes "osd restart 7" ∷ [])

abbrev pub handled_printed : List ℕ
handled_printed = lines (
    codes "epoch 1"
    ∷ codes "epoch 2"
    ∷ codes "epoch 3"
    ∷ codes "ok"
    ∷ codes "session 1"
    ∷ codes "request 1.1"
    ∷ codes "ok"
    ∷ codes "refused P1 NoMessage 99"
    ∷ codes "refused M10 NoGroup"
    ∷ codes "refused M2 NoPool"
    ∷ codes "ok"
    ∷ codes "request 1.2"
    ∷ codes "epoch 4"
    ∷ codes "refused P2 Unreachable"
    ∷ codes "settled 34"
    ∷ codes "ok"
    ∷ codes "settled 6"
    ∷ codes "request 1.3"
    ∷ codes "ok"
    ∷ codes "settled 0"
    ∷ codes "ok"
    ∷ codes "settled 10"
    ∷ codes "epoch 5"
    ∷ codes "epoch 6"
    ∷ codes "list 1.4 2"
    ∷ codes "ok"
    ∷ codes "refused W1 NoSession"
    ∷ codes "settled 56"
    ∷ codes "refused M5 NoDaemon" ∷ [])

-- scripts that are not plain, computed on the world itself
unfoldable pub WorldsCount : Type 0
WorldsCount = (script_output moved_script ≡ record { text = moved_printed; ending = Whole }) × (script_output handled_script ≡ record { text = handled_printed; ending = Whole })
