-- Requests that are served: each is replied to, in flight or still waits.
use Rattle.std.proofs.Common.{ℕ, ◌≡◌, ◌+◌, true, false, List, [], ◌∷◌, ◌++◌, length, refl, sym, ◌∙◌, ap, inl, inr, ◌⊎◌, length-append}
use Rattle.std.specs.Prelude.{Option, Some, None}
use Rattle.std.specs.List.{list_all}
use Rattle.entry_core.specs.Log.{is_in, find, decide}
use Rattle.store_core.specs.Request.{Sealed}
use Rattle.store_core.specs.declared.entry.Entry.{Entry}
use Rattle.group_model_whole.specs.Steps.{Stepped, send}
use Rattle.group_model_whole.specs.Serve.{serve, serve_one, push_new, append_to, reply_with}
use Rattle.group_model_whole.specs.Decided.{with_entry}
use Rattle.group_model_whole.specs.ActingSets.{others, asked}
use Rattle.group_model_whole.specs.Choice.{is_informed}
use Rattle.group_model_whole.specs.Types.{Role, Idle, Peering, Installing, Active, Daemon, Append, Reply, Client, Osd, Sent}
use Rattle.group_model_whole.proofs.RecoveryStates.{Any, IsAsking, IsInstallingAt, IsAppendingAt, RoleDue, IsReply, IsEntryOf, IsTaken}
use Rattle.group_model_whole.proofs.RecoveryLists.{Any-right, Any-map}
use Rattle.group_model_whole.proofs.Replies.{find-id}
use Rattle.group_model_whole.proofs.QuietRounds.{last-push}

-- what was on one wire and is still on the other
pub role_due : (up : List ℕ) (wire wire' : List Sent) (c : Daemon) (r : Role) →
    ((informed : _) → r ≡ Peering informed → (d : ℕ) → is_in (asked c) d ≡ true → is_in up d ≡ true → Any (IsAsking c d) wire → (is_informed c informed d ≡ true) ⊎ Any (IsAsking c d) wire') →
    ((done : _) → r ≡ Installing done → (d : ℕ) → is_in (others c) d ≡ true → Any (IsInstallingAt c d) wire → (is_in done d ≡ true) ⊎ Any (IsInstallingAt c d) wire') →
    ((holders : _) → r ≡ Active (Some holders) → (d : ℕ) → is_in (others c) d ≡ true → Any (IsAppendingAt c d) wire → (is_in holders d ≡ true) ⊎ Any (IsAppendingAt c d) wire') →
    RoleDue up wire c r → RoleDue up wire' c r
role_due up wire wire' c Idle a b e due = due
role_due up wire wire' c (Peering informed) a b e due = (due.0, λ d is u. elim (due.1 d is u) [ inl met ↦ inl met | inr w ↦ a informed refl d is u w ])
role_due up wire wire' c (Installing done) a b e due = (due.0, λ d is. elim (due.1 d is) [ inl met ↦ inl met | inr w ↦ b done refl d is w ])
role_due up wire wire' c (Active None) a b e due = due
role_due up wire wire' c (Active (Some holders)) a b e due = (due.0, λ d is. elim (due.1 d is) [ inl met ↦ inl met | inr w ↦ e holders refl d is w ])

pub role_due-right : (up : List ℕ) (first wire : List Sent) (c : Daemon) (r : Role) → RoleDue up wire c r → RoleDue up (first ++ wire) c r
role_due-right up first wire c r due = role_due up wire (first ++ wire) c r
    (λ informed e d is u w. inr (Any-right (IsAsking c d) first wire w))
    (λ done e d is w. inr (Any-right (IsInstallingAt c d) first wire w))
    (λ holders e d is w. inr (Any-right (IsAppendingAt c d) first wire w)) due

-- served
pub record Served (up : List ℕ) (c : Daemon) (waiting : List Sealed) (s : Stepped) : Type 0 where
  pub number : s.copy.number ≡ c.number
  pub promise : s.copy.promise ≡ c.promise
  pub role : RoleDue up s.sent s.copy s.copy.role
  pub each : (id : ℕ) → Any (λ w. w.id ≡ id) waiting → Any (IsReply id) s.sent ⊎ IsTaken s.copy id

more : (id : ℕ) (first : Sent) (sent : List Sent) (P : Type 0) → Any (IsReply id) sent ⊎ P → Any (IsReply id) (first ∷ sent) ⊎ P
more id first sent P (inl a) = inl (inr a)
more id first sent P (inr p) = inr p

replied : (up : List ℕ) (c c' : Daemon) (s : Sealed) (rest : List Sealed) (e : Entry) (after : Stepped) → c'.number ≡ c.number → c'.promise ≡ c.promise → e.sealed.id ≡ s.id → Served up c' rest after →
    Served up c (s ∷ rest) (record { copy = after.copy; sent = reply_with c e ++ after.sent })
replied up c c' s rest e after n q is served = record {
  number = served.number ∙ n;
  promise = served.promise ∙ q;
  role = role_due-right up (reply_with c e) after.sent after.copy after.copy.role served.role;
  each = λ id w. each id w;
}
  where
    each : (id : ℕ) → (s.id ≡ id) ⊎ Any (λ w. w.id ≡ id) rest → Any (IsReply id) (send c Client (Reply e.sealed.id e.reply) ∷ after.sent) ⊎ IsTaken after.copy id
    each id (inl same) = inl (inl (record { from = Osd c.number; reply = e.reply; is = ap (λ v. send c Client (Reply v e.reply)) (is ∙ same) }))
    each id (inr w) = more id (send c Client (Reply e.sealed.id e.reply)) after.sent (IsTaken after.copy id) (served.each id w)

pushed_due : (up : List ℕ) (c : Daemon) (s : Sealed) (rest : List Sealed) (ms : List ℕ) (after : Stepped) → others c ≡ ms → Served up (with_entry c s) rest after → Served up c (s ∷ rest) (push_new ms c s rest after)
pushed_due up c s rest [] after is served = replied up c (with_entry c s) s rest (decide c.log s) after refl refl refl served
pushed_due up c s rest (m ∷ ms) after is served = record {
  number = refl;
  promise = refl;
  role = (none_counted, λ d o. inr (sent d o));
  each = λ id w. inr (each id w);
}
  where
    c' : Daemon
    c' = record (with_entry c s) { role = Active (Some []); waiting = rest }

    none_counted : list_all (is_in []) (others c) ≡ false
    none_counted = rw is refl

    long : length (c.log ++ decide c.log s ∷ []) ≡ length c.log + 1
    long = length-append c.log (decide c.log s ∷ [])

    sent : (d : ℕ) → is_in (others c) d ≡ true → Any (IsAppendingAt (record (with_entry c s) { role = Active (Some []); waiting = rest }) d) (append_to c (length c.log + 1) s)
    sent d o = Any-map (IsAppendingAt (record (with_entry c s) { role = Active (Some []); waiting = rest }) d) (λ m. send c (Osd m) (Append c.promise (length c.log + 1) s)) (others c) d o
        (inl (record { entry = decide c.log s; is_last = last-push c.log (decide c.log s); is = ap (λ v. send c (Osd d) (Append c.promise v s)) (sym long) }))

    each : (id : ℕ) → (s.id ≡ id) ⊎ Any (λ w. w.id ≡ id) rest → Any (λ w. w.id ≡ id) rest ⊎ IsEntryOf (c.log ++ decide c.log s ∷ []) id
    each id (inl same) = inr (record { entry = decide c.log s; is_last = last-push c.log (decide c.log s); same = same })
    each id (inr w) = inl w

pub served : (up : List ℕ) (waiting : List Sealed) (c : Daemon) → Served up c waiting (serve waiting c)
served up [] c = record { number = refl; promise = refl; role = refl; each = λ id w. absurd w }
served up (s ∷ rest) c = go (find c.log s.id) refl (served up rest c) (served up rest (with_entry c s))
  where
    go : (f : Option Entry) → find c.log s.id ≡ f → Served up c rest (serve rest c) → Served up (with_entry c s) rest (serve rest (with_entry c s)) →
        Served up c (s ∷ rest) (serve_one f c s rest (serve rest c) (serve rest (with_entry c s)))
    go (Some e) is after later = replied up c c s rest e (serve rest c) refl refl (find-id c.log s.id e is) after
    go None is after later = pushed_due up c s rest (others c) (serve rest (with_entry c s)) refl later
