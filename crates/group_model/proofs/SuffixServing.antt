-- The rules that suffixes leave as they are: serving, requests, entries.
use Rattle.std.proofs.Common.{ℕ, ◌≡◌, ◌+◌, Bool, true, false, ◌==◌, nat_lt, List, [], ◌∷◌, length, refl, sym, subst, if◌then◌else◌}
use Rattle.std.specs.Prelude.{Option, Some, None}
use Rattle.std.specs.List.{list_any}
use Rattle.entry_core.specs.Log.{find, is_in, ids}
use Rattle.store_core.specs.Request.{Sealed}
use Rattle.store_core.specs.declared.entry.Entry.{Entry}
use Rattle.group_model_whole.specs.Decided.{not_in_flight, with_entry as whole_with_entry}
use Rattle.group_model_whole.specs.Serve.{push_new as whole_push_new, serve_one as whole_serve_one, serve as whole_serve}
use Rattle.group_model_whole.specs.Steps.{Stepped as WholeStepped, still as whole_still, send as whole_send}
use Rattle.group_model_whole.specs.Copy.{waits as whole_waits, busy_request as whole_busy_request, on_request_as as whole_on_request_as, on_request as whole_on_request, complete as whole_complete, acknowledged as whole_acknowledged}
use Rattle.group_model_whole.specs.Types.{Role as WholeRole, Active as WholeActive, Daemon, Append as WholeAppend, Appended as WholeAppended, Party, Osd, Sent as WholeSent}
use Rattle.group_model_whole.specs.History.{History}
use Rattle.group_model.specs.Types.{Append, Appended, Sent, Role, Idle, Peering, Installing, Active, Copy}
use Rattle.peer_core.specs.Steps.{Stepped, still, send}
use Rattle.peer_core.specs.ActingSets.{others}
use Rattle.peer_core.specs.Decided.{with_entry}
use Rattle.peer_core.specs.Serve.{push_new, serve_one, serve}
use Rattle.peer_core.specs.Copy.{waits, busy_request, on_request_as, on_request, complete, acknowledged}
use Rattle.group_model.proofs.Agreeing.{SentAgrees, RoleAgrees, CopyAgrees, StepAgrees, whole}
use Rattle.group_model.proofs.Lists.{Both-map}

module _ (p : ℕ → ℕ) (h : History) where
  -- two tests that are the same
  pub by_tests : (b b' : Bool) (x y : Stepped) (x' y' : WholeStepped) → b ≡ b' → (b' ≡ true → StepAgrees p h x x') → (b' ≡ false → StepAgrees p h y y') → StepAgrees p h (if b then x else y) (if b' then x' else y')
  by_tests true true x y x' y' same f g = f refl
  by_tests false false x y x' y' same f g = g refl
  by_tests true false x y x' y' same f g = absurd (cc)
  by_tests false true x y x' y' same f g = absurd (cc)

  pub by_test : (b : Bool) (x y : Stepped) (x' y' : WholeStepped) → (b ≡ true → StepAgrees p h x x') → (b ≡ false → StepAgrees p h y y') → StepAgrees p h (if b then x else y) (if b then x' else y')
  by_test true x y x' y' f g = f refl
  by_test false x y x' y' f g = g refl

  pub still_agrees : (c : Copy) (w : Daemon) → CopyAgrees p h c w → StepAgrees p h (still c) (whole_still w)
  still_agrees c w a = record { copy = a; sent = tt }

  -- one message more before the others
  pub sent_first : (m : Sent) (w : WholeSent) (s : Stepped) (s' : WholeStepped) → SentAgrees p h m w → StepAgrees p h s s' → StepAgrees p h (record { copy = s.copy; sent = m ∷ s.sent }) (record { copy = s'.copy; sent = w ∷ s'.sent })
  sent_first m w s s' one a = record { copy = a.copy; sent = (one, a.sent) }

  push_agrees : (ms : List ℕ) (c : Copy) (r : WholeRole) (s : Sealed) (rest : List Sealed) (after : Stepped) (after' : WholeStepped) → StepAgrees p h after after' → StepAgrees p h (push_new ms c s rest after) (whole_push_new ms (whole c r) s rest after')
  push_agrees [] c r s rest after after' a = record { copy = a.copy; sent = (record { from = refl; to = refl; body = refl }, a.sent) }
  push_agrees (m ∷ ms) c r s rest after after' a = record {
    copy = record { role = WholeActive (Some []); is = refl; agrees = refl };
    sent = Both-map (SentAgrees p h) (λ i. send c (Osd i) (Append c.promise (length c.log + 1) s)) (λ i. whole_send (whole c r) (Osd i) (WholeAppend c.promise (length c.log + 1) s))
        (λ i. record { from = refl; to = refl; body = refl }) (others c);
  }

  serve_one_agrees : (found : Option Entry) (c : Copy) (r : WholeRole) (s : Sealed) (rest : List Sealed) (after pushed : Stepped) (after' pushed' : WholeStepped) → StepAgrees p h after after' → StepAgrees p h pushed pushed' →
      StepAgrees p h (serve_one found c s rest after pushed) (whole_serve_one found (whole c r) s rest after' pushed')
  serve_one_agrees (Some e) c r s rest after pushed after' pushed' a b = record { copy = a.copy; sent = (record { from = refl; to = refl; body = refl }, a.sent) }
  serve_one_agrees None c r s rest after pushed after' pushed' a b = push_agrees (others c) c r s rest pushed pushed' b

  pub serve_agrees : (waiting : List Sealed) (c : Copy) (r : WholeRole) → StepAgrees p h (serve waiting c) (whole_serve waiting (whole c r))
  serve_agrees [] c r = record { copy = record { role = WholeActive None; is = refl; agrees = refl }; sent = tt }
  serve_agrees (s ∷ rest) c r =
      serve_one_agrees (find c.log s.id) c r s rest (serve rest c) (serve rest (with_entry c s)) (whole_serve rest (whole c r)) (whole_serve rest (whole_with_entry (whole c r) s))
      (serve_agrees rest c r) (serve_agrees rest (with_entry c s) r)

  pub complete_agrees : (e : Option Entry) (c : Copy) (r : WholeRole) → StepAgrees p h (complete c e) (whole_complete (whole c r) e)
  complete_agrees None c r = serve_agrees c.waiting c r
  complete_agrees (Some e) c r = (let after = serve_agrees c.waiting c r in record { copy = after.copy; sent = (record { from = refl; to = refl; body = refl }, after.sent) })

  -- requests

  waits_agrees : (c : Copy) (r : WholeRole) (s : Sealed) → RoleAgrees p h c.promise c.log (others c) c.role r → StepAgrees p h (waits c s) (whole_waits (whole c r) s)
  waits_agrees c r s a = record { copy = record { role = r; is = refl; agrees = a }; sent = tt }

  busy_agrees : (c : Copy) (r : WholeRole) (s : Sealed) (found : Option Entry) → RoleAgrees p h c.promise c.log (others c) c.role r → StepAgrees p h (busy_request c s found) (whole_busy_request (whole c r) s found)
  busy_agrees c r s (Some e) a = record { copy = record { role = r; is = refl; agrees = a }; sent = (record { from = refl; to = refl; body = refl }, tt) }
  busy_agrees c r s None a = by_test (is_in (ids c.log) s.id) (still c) (waits c s) (whole_still (whole c r)) (whole_waits (whole c r) s)
      (λ _. record { copy = record { role = r; is = refl; agrees = a }; sent = tt }) (λ _. waits_agrees c r s a)

  request_as_agrees : (q : Role) (c : Copy) (r : WholeRole) (s : Sealed) → RoleAgrees p h c.promise c.log (others c) q r → RoleAgrees p h c.promise c.log (others c) c.role r → StepAgrees p h (on_request_as q c s) (whole_on_request_as r (whole c r) s)
  request_as_agrees Idle c r s is a = subst (λ v. StepAgrees p h (on_request_as Idle c s) (whole_on_request_as v (whole c r) s)) (sym is)
      (record { copy = record { role = r; is = refl; agrees = a }; sent = (record { from = refl; to = refl; body = refl }, tt) })
  request_as_agrees (Peering informed) c r s is a = subst (λ v. StepAgrees p h (on_request_as (Peering informed) c s) (whole_on_request_as v (whole c r) s)) (sym is.is) (waits_agrees c r s a)
  request_as_agrees (Installing done common) c r s is a = subst (λ v. StepAgrees p h (on_request_as (Installing done common) c s) (whole_on_request_as v (whole c r) s)) (sym is.0) (waits_agrees c r s a)
  request_as_agrees (Active None) c r s is a = subst (λ v. StepAgrees p h (on_request_as (Active None) c s) (whole_on_request_as v (whole c r) s)) (sym is) (serve_agrees (s ∷ c.waiting) c r)
  request_as_agrees (Active (Some holders)) c r s is a = subst (λ v. StepAgrees p h (on_request_as (Active (Some holders)) c s) (whole_on_request_as v (whole c r) s)) (sym is)
      (busy_agrees c r s (find (not_in_flight c.log (Some holders)) s.id) a)

  pub request_agrees : (c : Copy) (r : WholeRole) (s : Sealed) → RoleAgrees p h c.promise c.log (others c) c.role r → StepAgrees p h (on_request c s) (whole_on_request (whole c r) s)
  request_agrees c r s a = by_test (list_any (λ w. w.id == s.id) c.waiting) (still c) (on_request_as c.role c s) (whole_still (whole c r)) (whole_on_request_as r (whole c r) s)
      (λ _. record { copy = record { role = r; is = refl; agrees = a }; sent = tt }) (λ _. request_as_agrees c.role c r s a a)

  pub acknowledged_agrees : (c : Copy) (w : Daemon) (from : Party) (n place : ℕ) → CopyAgrees p h c w → StepAgrees p h (acknowledged c from n place) (whole_acknowledged w from n place)
  acknowledged_agrees c w from n place a = subst (λ v. StepAgrees p h (acknowledged c from n place) (whole_acknowledged v from n place)) (sym a.is)
      (by_test (nat_lt (length c.log) place) (still c) (record { copy = c; sent = send c from (Appended n place) ∷ [] }) (whole_still (whole c a.role)) (record { copy = whole c a.role; sent = whole_send (whole c a.role) from (WholeAppended n place) ∷ [] })
      (λ _. record { copy = record { role = a.role; is = refl; agrees = a.agrees }; sent = tt })
      (λ _. record { copy = record { role = a.role; is = refl; agrees = a.agrees }; sent = (record { from = refl; to = refl; body = refl }, tt) }))
