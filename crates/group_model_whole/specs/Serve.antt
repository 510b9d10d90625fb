-- Statement: contracts of public calls use it.
-- How an active copy takes the requests that wait.
use Rattle.std.specs.Prelude.{ℕ, ◌+◌, List, [], ◌∷◌, ◌++◌, map, length, Option, Some, None}
use Rattle.entry_core.specs.Log.{decide, find}
use Rattle.group_model_whole.specs.Types.{Sealed, Entry, Client, Osd, Append, Reply, Sent, Active, Daemon}
use Rattle.group_model_whole.specs.ActingSets.{others}
use Rattle.group_model_whole.specs.Decided.{with_entry}
use Rattle.group_model_whole.specs.Steps.{Stepped, send}

abbrev pub reply_with : Daemon → Entry → List Sent
reply_with c e = send c Client (Reply e.sealed.id e.reply) ∷ []

abbrev pub append_to : Daemon → ℕ → Sealed → List Sent
append_to c index s = map (λ m. send c (Osd m) (Append c.promise index s)) (others c)

-- a new entry of an active copy: complete at once where there is no other member, else in flight
abbrev pub push_new : List ℕ → Daemon → Sealed → List Sealed → Stepped → Stepped
push_new [] c s rest after = record { copy = after.copy; sent = reply_with c (decide c.log s) ++ after.sent }
push_new (m ∷ ms) c s rest after = record {
  copy = record (with_entry c s) { role = Active (Some []); waiting = rest };
  sent = append_to c (length c.log + 1) s;
}

abbrev pub serve_one : Option Entry → Daemon → Sealed → List Sealed → Stepped → Stepped → Stepped
serve_one (Some e) c s rest after pushed = record { copy = after.copy; sent = reply_with c e ++ after.sent }
serve_one None c s rest after pushed = push_new (others c) c s rest pushed

-- an active copy with nothing in flight takes these requests, the first first, until one is in flight
abbrev pub serve : List Sealed → Daemon → Stepped
serve [] c = record { copy = record c { role = Active None; waiting = [] }; sent = [] }
serve (s ∷ rest) c = serve_one (find c.log s.id) c s rest (serve rest c) (serve rest (with_entry c s))
