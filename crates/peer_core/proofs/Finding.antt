-- What a log says of the request of an id.
use Rattle.std.proofs.Common.{ℕ, ◌≡◌, ◌==◌, ◌||◌, ◌-◌, Bool, true, false, List, [], ◌∷◌, ◌++◌, length, take, refl, sym, ◌∙◌, ap}
use Rattle.std.specs.Prelude.{Option, Some, None, if◌then◌else◌}
use Rattle.std.specs.Option.{option_map}
use Rattle.std.proofs.lemmas.Bool.{eqb-true}
use Rattle.entry_core.specs.Log.{Decision, decision, decide-sealed, find, reply_in, ids, is_in}
use Rattle.peer_core.specs.Types.{Sealed, Entry, Copy, EntryReply, Client, Osd, Reply, Sent}
use Rattle.peer_core.specs.Stages.{log_with, entry_of, reply_of}
use Rattle.peer_core.specs.Copy.{busy_request}

-- the entry that was found, with its id and reply
pub record Found (log : List Entry) (id : ℕ) (reply : EntryReply) : Type 0 where
  pub entry : Entry
  pub is : find log id ≡ Some entry
  pub id_is : entry.sealed.id ≡ id
  pub reply_is : entry.reply ≡ reply

found_head : (e : Entry) (es : List Entry) (id : ℕ) (reply : EntryReply) (b : Bool) → (e.sealed.id == id) ≡ b → option_map (λ x. x.reply) (if b then Some e else find es id) ≡ Some reply →
    (reply_in es id ≡ Some reply → Found es id reply) → Found (e ∷ es) id reply
found_head e es id reply true same is rest = record { entry = e; is = rw same refl; id_is = eqb-true e.sealed.id id same; reply_is = cc }
found_head e es id reply false other is rest =
    let f : Found es id reply = rest is in
    record { entry = f.entry; is = rw other f.is; id_is = f.id_is; reply_is = f.reply_is }

pub found : (log : List Entry) (id : ℕ) (reply : EntryReply) → reply_in log id ≡ Some reply → Found log id reply
found [] id reply is = absurd (cc)
found (e ∷ es) id reply is = found_head e es id reply (e.sealed.id == id) refl is (found es id reply)

no_reply : (f : Option Entry) → option_map (λ x. x.reply) f ≡ None → f ≡ None
no_reply None is = refl
no_reply (Some e) is = absurd (cc)

pub unfound : (log : List Entry) (id : ℕ) → reply_in log id ≡ None → find log id ≡ None
unfound log id is = no_reply (find log id) is

absent_head : (e : Entry) (es : List Entry) (id : ℕ) (b : Bool) → (e.sealed.id == id) ≡ b → (if b then Some e else find es id) ≡ None →
    (find es id ≡ None → is_in (ids es) id ≡ false) → ((e.sealed.id == id) || is_in (ids es) id) ≡ false
absent_head e es id true same is rest = absurd (cc)
absent_head e es id false other is rest = rw other (rest is)

pub absent : (log : List Entry) (id : ℕ) → find log id ≡ None → is_in (ids log) id ≡ false
absent [] id is = refl
absent (e ∷ es) id is = absent_head e es id (e.sealed.id == id) refl is (absent es id)

present_head : (e : Entry) (es : List Entry) (id : ℕ) (b : Bool) → (e.sealed.id == id) ≡ b → (b || is_in (ids es) id) ≡ false →
    (is_in (ids es) id ≡ false → find es id ≡ None) → (if e.sealed.id == id then Some e else find es id) ≡ None
present_head e es id true same is rest = absurd (cc)
present_head e es id false other is rest = rw other (rest is)

-- and the other way round
pub unfound_if_absent : (log : List Entry) (id : ℕ) → is_in (ids log) id ≡ false → find log id ≡ None
unfound_if_absent [] id is = refl
unfound_if_absent (e ∷ es) id is = present_head e es id (e.sealed.id == id) refl is (unfound_if_absent es id)

-- what was decided carries its request, and is what that becomes
pub own_request : (log : List Entry) (s : Sealed) (d : Decision) → d ≡ decision log s → d.entry.sealed ≡ s
own_request log s d is = ap (λ x. x.entry.sealed) is ∙ decide-sealed log s

pub own_decision : (log : List Entry) (s : Sealed) (d : Decision) → d ≡ decision log s → d ≡ decision log d.entry.sealed
own_decision log s d is = is ∙ ap (λ r. decision log r) (sym (own_request log s d is))

-- it can stand in the log
pub own_absent : (log : List Entry) (s : Sealed) (d : Decision) → d ≡ decision log s → reply_in log s.id ≡ None → is_in (ids log) d.entry.sealed.id ≡ false
own_absent log s d is none = rw (own_request log s d is) (absent log s.id (unfound log s.id none))

-- the answer to a request that the log has
pub answer_found : (number : ℕ) (log : List Entry) (s : Sealed) (reply : EntryReply) → reply_in log s.id ≡ Some reply →
    ◌≡◌ {A = Sent} (record { from = Osd number; to = Client; body = Reply s.id reply }) (reply_of number (entry_of (find log s.id) log s))
answer_found number log s reply is =
    let f : Found log s.id reply = found log s.id reply is in
    rw (f.is, f.id_is, f.reply_is) refl

pub log_found : (log : List Entry) (s : Sealed) (reply : EntryReply) → reply_in log s.id ≡ Some reply → log_with (find log s.id) log s ≡ log
log_found log s reply is = let f : Found log s.id reply = found log s.id reply is in rw f.is refl

-- the answer to a request that is new
pub answer_new : (number : ℕ) (log : List Entry) (s : Sealed) (d : Decision) → reply_in log s.id ≡ None → d ≡ decision log s →
    ◌≡◌ {A = Sent} (record { from = Osd number; to = Client; body = Reply s.id d.entry.reply }) (reply_of number (entry_of (find log s.id) log s))
answer_new number log s d none is = rw (unfound log s.id none, is, decide-sealed log s) refl

pub log_new : (log : List Entry) (s : Sealed) (d : Decision) → reply_in log s.id ≡ None → d ≡ decision log s → log ++ d.entry ∷ [] ≡ log_with (find log s.id) log s
log_new log s d none is = rw (unfound log s.id none, is) refl

pub absent_request : (log : List Entry) (s : Sealed) (d : Decision) → d ≡ decision log s → find log s.id ≡ None → is_in (ids log) d.entry.sealed.id ≡ false
absent_request log s d is none = rw (own_request log s d is) (absent log s.id none)

pub absent_in : (log : List Entry) (s : Sealed) (d : Decision) → d ≡ decision log s → is_in (ids log) s.id ≡ false → is_in (ids log) d.entry.sealed.id ≡ false
absent_in log s d is none = rw (own_request log s d is) none

-- a request while an entry is in flight
pub busy_known : (c : Copy) (s : Sealed) (reply : EntryReply) → reply_in (take (length c.log - 1) c.log) s.id ≡ Some reply →
    busy_request c s (find (take (length c.log - 1) c.log) s.id) ≡ record { copy = c; sent = record { from = Osd c.number; to = Client; body = Reply s.id reply } ∷ [] }
busy_known c s reply is =
    let f : Found (take (length c.log - 1) c.log) s.id reply = found (take (length c.log - 1) c.log) s.id reply is in
    rw (f.is, f.id_is, f.reply_is) refl

pub busy_new : (c : Copy) (s : Sealed) → reply_in (take (length c.log - 1) c.log) s.id ≡ None → busy_request c s (find (take (length c.log - 1) c.log) s.id) ≡ busy_request c s None
busy_new c s none = rw (unfound (take (length c.log - 1) c.log) s.id none) refl
