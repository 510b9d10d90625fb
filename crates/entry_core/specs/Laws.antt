-- Statement: contracts of public calls use it.
-- Laws of deciding.
use Rattle.std.specs.Prelude.{◌≡◌, ℕ, Some, Bool, true, false, not, List, [], ◌∷◌, ◌++◌}
use Rattle.std.specs.List.Sorted.{IsStrictlySortedBy}
use Rattle.std.specs.FinMap.{get}
use Rattle.verdict_core.specs.Verdict.{report_of}
use Rattle.store_core.specs.Request.{Sealed, target_of, needs_for}
use Rattle.store_core.specs.Store.{Store, ObjectName, bytes_cmp}
use Rattle.store_core.specs.Deciding.{store_of, is_allowed_sealed, name_of, names_in}
use Rattle.store_core.specs.Objects.{changed}
use Rattle.entry_core.specs.Log.{decision, decide, find, Legal}
use Rattle.store_core.specs.declared.reply.Reply.{Reply}
use Rattle.store_core.specs.declared.reply.Reply.TheVariants.{Denied, Done, Failed, Names}
use Rattle.store_core.specs.declared.entry.Entry.{Entry}

abbrev pub is_denied : Reply → Bool
is_denied (Denied report) = true
is_denied (Done outputs) = false
is_denied (Failed place number) = false
is_denied (Names names) = false

abbrev pub is_done : Reply → Bool
is_done (Denied report) = false
is_done (Done outputs) = true
is_done (Failed place number) = false
is_done (Names names) = false

-- on every log a request is denied just where its own ticket, target, needs and tick are not allowed, and by their report
abbrev pub VerdictIsSealed : Type 0
VerdictIsSealed = (log : List Entry) (s : Sealed) → (is_denied (decide log s).reply ≡ not (is_allowed_sealed s)) × (is_allowed_sealed s ≡ false → (decide log s).reply ≡ Denied (report_of s.ticket (target_of s) (needs_for s.work) s.tick))

-- an entry that was denied, that failed or that lists names leaves all objects as they were
abbrev pub RefusalsLeaveTheStore : Type 0
RefusalsLeaveTheStore = (log : List Entry) (e : Entry) → is_done e.reply ≡ false → store_of (log ++ e ∷ []) ≡ store_of log

-- an entry leaves each object but its own as it was
abbrev pub OthersAreLeft : Type 0
OthersAreLeft = (log : List Entry) (e : Entry) (name : ObjectName) → (name ≡ name_of e.sealed → ⊥) → get (store_of (log ++ e ∷ [])) name ≡ get (store_of log) name

-- an entry of this number in a log, decided on the entries before it
pub record StandsIn (log : List Entry) (id : ℕ) (e : Entry) : Type 0 where
  pub before : List Entry
  pub behind : List Entry
  pub whole : before ++ e ∷ behind ≡ log
  pub decided : e ≡ decide before e.sealed
  pub number : e.sealed.id ≡ id

-- in a legal log an entry that is found stands so
abbrev pub FindTells : Type 0
FindTells = (log : List Entry) (id : ℕ) (e : Entry) → Legal log → find log id ≡ Some e → StandsIn log id e

-- a decision, once it stands in the log, changes the store as it says
abbrev pub DecisionTellsTheStore : Type 0
DecisionTellsTheStore = (log : List Entry) (s : Sealed) → store_of (log ++ decide log s ∷ []) ≡ changed (store_of log) (name_of s) (decision log s).change

-- the names of a piece stand in the order of their bytes, each once
abbrev pub ListingsAreSorted : Type 0
ListingsAreSorted = (store : Store) (s : Sealed) → IsStrictlySortedBy bytes_cmp (names_in store s)
