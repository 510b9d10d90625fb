-- Statement: contracts of public calls use it.
-- The gate as one object with one store: requests are submitted, decided one after another, and answered. No daemon, copy,
-- message or group stands here. A world is held against it (Serving), as an implementation against its specification in IronFleet.
use Rattle.std.specs.Prelude.{◌≡◌, ℕ, ◌≤◌, ◌==◌, true, false, List, [], ◌∷◌, ◌++◌, Option, None, Some, Contains, length, filter, map}
use Rattle.verdict_core.specs.Verdict.{report_of}
use Rattle.request_types.specs.declared.request.Condition.{Condition}
use Rattle.store_core.specs.Request.{Sealed, target_of, needs_for}
use Rattle.store_core.specs.Deciding.{is_allowed_sealed, performed, store_of}
use Rattle.entry_core.specs.Log.{decide, ids, is_in, reply_in}
use Rattle.store_core.specs.declared.reply.Reply.{Reply}
use Rattle.store_core.specs.declared.reply.Reply.TheVariants.{Denied}
use Rattle.store_core.specs.declared.entry.Entry.{Entry}

pub record Service : Type 0 where
  pub submitted : List Sealed  -- in order, each with the ticket, tick and view that it was sealed with
  pub decided : List Entry  -- in order, each a request with its reply
  pub answers : ℕ → Option Reply  -- what reached the client, by the request's id

abbrev pub begun : Service
begun = record { submitted = []; decided = []; answers = λ id. None }

-- ---- one event

-- these requests may be submitted after those: each under an id that is new
abbrev pub AreNew : List Sealed → List Sealed → Type 0
AreNew old [] = Unit {0}
AreNew old (s ∷ ss) = (is_in (map (λ r. r.id) old) s.id ≡ false) × AreNew (old ++ s ∷ []) ss

-- these entries may be decided after those: each of a request that was submitted and not yet decided, with what one store makes of it there
abbrev pub AreDecided : (submitted : List Sealed) (old : List Entry) → List Entry → Type 0
AreDecided submitted old [] = Unit {0}
AreDecided submitted old (e ∷ es) = Contains submitted e.sealed × (is_in (ids old) e.sealed.id ≡ false) × (e ≡ decide old e.sealed) × AreDecided submitted (old ++ e ∷ []) es

-- An event submits these requests. Besides, any requests that were submitted are decided, and any that were decided are answered; nothing is taken back
pub record Step (requests : List Sealed) (old new : Service) : Type 0 where
  pub submitted : new.submitted ≡ old.submitted ++ requests
  pub under_new_ids : AreNew old.submitted requests
  pub more : List Entry
  pub decided : new.decided ≡ old.decided ++ more
  pub by_one_store : AreDecided new.submitted old.decided more
  pub answers_stand : (id : ℕ) (reply : Reply) → old.answers id ≡ Some reply → new.answers id ≡ Some reply
  pub answered : (id : ℕ) (reply : Reply) → new.answers id ≡ Some reply → reply_in new.decided id ≡ Some reply

-- events, of which each submits these requests
abbrev pub Reaches : List (List Sealed) → Service → Service → Type 0
Reaches [] old new = old ≡ new
Reaches (requests ∷ rest) old new = (next : Service) × Step requests old next × Reaches rest next new

-- ---- what follows from this

-- an entry behind these ones: performed just where its ticket allows it, with the reply of the store that these make; else denied by the
-- first failed condition of each grant, and all objects are as they were
pub record IsRight (before : List Entry) (e : Entry) : Type 0 where
  pub allowed : is_allowed_sealed e.sealed ≡ true → e.reply ≡ (performed (store_of before) e.sealed e.sealed.work).reply
  pub denied : is_allowed_sealed e.sealed ≡ false → e.reply ≡ Denied (report_of e.sealed.ticket (target_of e.sealed) (needs_for e.sealed.work) e.sealed.tick)
  pub no_effect : is_allowed_sealed e.sealed ≡ false → store_of (before ++ e ∷ []) ≡ store_of before
  pub only_then : (report : List (List ℕ × Condition)) → e.reply ≡ Denied report → is_allowed_sealed e.sealed ≡ false

pub record KeepsItsWord (s : Service) : Type 0 where
  pub one_id : (id : ℕ) → length (filter (λ r. r.id == id) s.submitted) ≤ 1
  pub at_most_once : (id : ℕ) → length (filter (λ e. e.sealed.id == id) s.decided) ≤ 1
  pub was_submitted : (before : List Entry) (e : Entry) (behind : List Entry) → before ++ e ∷ behind ≡ s.decided → Contains s.submitted e.sealed
  pub is_right : (before : List Entry) (e : Entry) (behind : List Entry) → before ++ e ∷ behind ≡ s.decided → IsRight before e
  pub was_decided : (id : ℕ) (reply : Reply) → s.answers id ≡ Some reply → reply_in s.decided id ≡ Some reply

-- whatever happens
abbrev pub ServiceKeepsItsWord : Type 0
ServiceKeepsItsWord = (events : List (List Sealed)) (s : Service) → Reaches events begun s → KeepsItsWord s

-- what was decided stays in front, and what was answered stands
pub record Grows (old new : Service) : Type 0 where
  pub more : List Entry
  pub decided : new.decided ≡ old.decided ++ more
  pub answers_stand : (id : ℕ) (reply : Reply) → old.answers id ≡ Some reply → new.answers id ≡ Some reply

abbrev pub ServiceGrows : Type 0
ServiceGrows = (events : List (List Sealed)) (old new : Service) → Reaches events old new → Grows old new
