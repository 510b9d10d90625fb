-- Statement: contracts of public calls use it.
-- What a store decides on a request, and what an entry makes of a store.
use Rattle.std.specs.Prelude.{ℕ, List, Bool, ◌&&◌, ◌==◌, if◌then◌else◌, Ok, Err, map, fold}
use Rattle.std.specs.List.{filter}
use Rattle.std.specs.Str.{bytes_eq}
use Rattle.std.specs.FinMap.{empty, get, keys}
use Rattle.verdict_core.specs.Verdict.{is_allowed, report_of}
use Rattle.place_core.specs.Placement.{group_of}
use Rattle.object_core.specs.Effect.{effect}
use Rattle.object_core.specs.Operations.{Run, left_by}
use Rattle.object_core.specs.declared.outcome.Change.{Change}
use Rattle.object_core.specs.declared.outcome.Change.TheVariants.{Kept, Became}
use Rattle.store_core.specs.Request.{Sealed, Work, Vector, Listing, target_of, needs_for, object_of}
use Rattle.store_core.specs.Store.{Store, ObjectName, with_object}
use Rattle.store_core.specs.declared.reply.Reply.{Reply}
use Rattle.store_core.specs.declared.reply.Reply.TheVariants.{Denied, Done, Failed, Names}
use Rattle.store_core.specs.declared.entry.Entry.{Entry}

-- an entry, and what becomes of its object
pub record Decision : Type 0 where
  pub entry : Entry
  pub change : Change

-- a reply, and what becomes of the object
pub record Answer : Type 0 where
  pub reply : Reply
  pub change : Change

-- the object that a request names
abbrev pub name_of : Sealed → ObjectName
name_of s = record { pool = s.view.pool; namespace = s.namespace; name = object_of s.work }

-- a reply that leaves the store as it was
abbrev pub answered : Reply → Answer
answered reply = record { reply = reply; change = Kept }

-- the answer that a run of the operations results in
abbrev pub ran : Run → Answer
ran (Ok done) = record { reply = Done done.0; change = Became done.1 }
ran (Err fault) = answered (Failed fault.0 fault.1)

-- whether a listing piece has this name: it is of its pool and namespace, and placed in its group
abbrev pub is_listed : Sealed → ObjectName → Bool
is_listed s n = bytes_eq n.pool s.view.pool && bytes_eq n.namespace s.namespace && group_of n.namespace n.name s.view.pg_num == s.group

-- the names of a listing piece, in the order of their bytes, as the store has them
unfoldable pub names_in : Store → Sealed → List (List ℕ)
names_in store s = map (λ n. n.name) (filter (is_listed s) (keys store))

abbrev pub performed : Store → Sealed → Work → Answer
performed store s (Vector object ops) = ran (effect (get store (name_of s)) ops)
performed store s Listing = answered (Names (names_in store s))

-- whether its ticket allows a request at the tick of its submission: no object is looked at
abbrev pub is_allowed_sealed : Sealed → Bool
is_allowed_sealed s = is_allowed s.ticket (target_of s) (needs_for s.work) s.tick

-- a denied request performs nothing
unfoldable pub answer_on : Store → Sealed → Answer
answer_on store s =
    if is_allowed_sealed s then performed store s s.work
    else answered (Denied (report_of s.ticket (target_of s) (needs_for s.work) s.tick))

-- the request with its answer
abbrev pub with_answer : Sealed → Answer → Decision
with_answer s answer = record { entry = record { sealed = s; reply = answer.reply }; change = answer.change }

abbrev pub decision_on : Store → Sealed → Decision
decision_on store s = with_answer s (answer_on store s)

-- only a vector that was done changes the store, and only its own object: to what its operations leave
abbrev pub stepped : Store → Sealed → Work → Reply → Store
stepped store s (Vector object ops) (Done outputs) = with_object store (name_of s) (left_by (get store (name_of s)) (effect (get store (name_of s)) ops))
stepped store s _ _ = store

abbrev pub step : Store → Entry → Store
step store e = stepped store e.sealed e.sealed.work e.reply

-- the store that a log's entries make
abbrev pub store_of : List Entry → Store
store_of log = fold step empty log
