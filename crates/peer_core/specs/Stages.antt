-- Refinement: only contracts inside the crate use it.
-- Steps on the way to the rules.
use Rattle.std.specs.Prelude.{ℕ, ◌≡◌, ◌<◌, ◌+◌, Bool, false, ◌==◌, ◌&&◌, not, List, [], ◌∷◌, ◌++◌, length, drop, slice_index_or, Option, Some, None}
use Rattle.entry_core.specs.Log.{Decision, decision, decide, find}
use Rattle.peer_core.specs.Types.{Sealed, Entry, Client, Osd, Reply, Sent, Role, Idle, Peering, Installing, Active, Copy}
use Rattle.peer_core.specs.Choice.{is_informed}
use Rattle.peer_core.specs.Decided.{with_entry}
use Rattle.peer_core.specs.Serve.{serve, append_to, reply_with}

-- whether a copy is peering for this interval, and has not heard of this daemon
abbrev pub awaits : Role → Copy → ℕ → ℕ → Bool
awaits (Peering informed) c interval member = (c.promise == interval) && not (is_informed c informed member)
awaits Idle c interval member = false
awaits (Installing done common) c interval member = false
awaits (Active flight) c interval member = false

-- the log after a request that it may have
abbrev pub log_with : Option Entry → List Entry → Sealed → List Entry
log_with (Some e) log s = log
log_with None log s = log ++ decide log s ∷ []

-- the entry that answers it
abbrev pub entry_of : Option Entry → List Entry → Sealed → Entry
entry_of (Some e) log s = e
entry_of None log s = decide log s

abbrev pub reply_of : ℕ → Entry → Sent
reply_of number e = record { from = Osd number; to = Client; body = Reply e.sealed.id e.reply }

-- the log after these requests
abbrev pub log_after : List Sealed → List Entry → List Entry
log_after [] log = log
log_after (s ∷ rest) log = log_after rest (log_with (find log s.id) log s)

-- their answers
abbrev pub replies_to : ℕ → List Sealed → List Entry → List Sent
replies_to number [] log = []
replies_to number (s ∷ rest) log = reply_of number (entry_of (find log s.id) log s) ∷ replies_to number rest (log_with (find log s.id) log s)

-- the answer to an entry, if there is one
abbrev pub replies : Copy → Option Entry → List Sent
replies c None = []
replies c (Some e) = reply_with c e

-- the first requests that wait, that many, were answered from the log, and the next is new to it
pub record AnsweredFirst (c : Copy) (before sent : List Sent) (count : ℕ) : Type 0 where
  pub copy : (serve (drop count c.waiting) c).copy ≡ (serve c.waiting c).copy
  pub messages : sent ++ (serve (drop count c.waiting) c).sent ≡ before ++ (serve c.waiting c).sent
  pub next : (s : Sealed) → count < length c.waiting → s ≡ slice_index_or c.waiting count s → find c.log s.id ≡ None

-- the request that waits at a place was decided, and sent to the other members
pub record IsOffered (c : Copy) (place : ℕ) (decided : Decision) (before sent : List Sent) : Type 0 where
  pub request : Sealed
  pub is : request ≡ slice_index_or c.waiting place request
  pub entry : decided ≡ decision c.log request
  pub messages : sent ≡ before ++ append_to c (length c.log + 1) request

-- the request that waits at a place is in flight, and is what was sent last
pub record HasBegun (old new : Copy) (place : ℕ) (before sent : List Sent) : Type 0 where
  pub request : Sealed
  pub is : request ≡ slice_index_or old.waiting place request
  pub copy : new ≡ record (with_entry old request) { role = Active (Some []); waiting = drop (place + 1) old.waiting }
  pub messages : sent ≡ before ++ append_to old (length old.log + 1) request
