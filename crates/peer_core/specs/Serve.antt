-- Statement: contracts of public calls use it.
-- How an active copy takes the requests that wait.
use Rattle.std.specs.Prelude.{ℕ, ◌+◌, List, [], ◌∷◌, ◌++◌, map, length, Option, Some, None}
use Rattle.store_core.specs.Request.{Sealed}
use Rattle.entry_core.specs.Log.{decide, find}
use Rattle.store_core.specs.declared.entry.Entry.{Entry}
use Rattle.peer_core.specs.Types.{Client, Osd, Append, Reply, Sent, Active, Copy}
use Rattle.peer_core.specs.ActingSets.{others}
use Rattle.peer_core.specs.Decided.{with_entry}
use Rattle.peer_core.specs.Steps.{Stepped, send}

abbrev pub reply_with : Copy → Entry → List Sent
reply_with c e = send c Client (Reply e.sealed.id e.reply) ∷ []

abbrev pub append_to : Copy → ℕ → Sealed → List Sent
append_to c place s = map (λ m. send c (Osd m) (Append c.promise place s)) (others c)

-- a new entry of an active copy: complete at once where there is no other member, else in flight
abbrev pub push_new : List ℕ → Copy → Sealed → List Sealed → Stepped → Stepped
push_new [] c s rest after = record { copy = after.copy; sent = reply_with c (decide c.log s) ++ after.sent }
push_new (m ∷ ms) c s rest after = record {
  copy = record (with_entry c s) { role = Active (Some []); waiting = rest };
  sent = append_to c (length c.log + 1) s;
}

abbrev pub serve_one : Option Entry → Copy → Sealed → List Sealed → Stepped → Stepped → Stepped
serve_one (Some e) c s rest after pushed = record { copy = after.copy; sent = reply_with c e ++ after.sent }
serve_one None c s rest after pushed = push_new (others c) c s rest pushed

-- an active copy with nothing in flight takes these requests, the first first, until one is in flight
abbrev pub serve : List Sealed → Copy → Stepped
serve [] c = record { copy = record c { role = Active None; waiting = [] }; sent = [] }
serve (s ∷ rest) c = serve_one (find c.log s.id) c s rest (serve rest c) (serve rest (with_entry c s))
