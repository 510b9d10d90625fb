-- Each id is new where its request is submitted.
use Rattle.std.proofs.Common.{◌≡◌, ℕ, ◌≤◌, List, ◌∷◌, ◌++◌, Result, Ok, Err, length, refl, sym, subst, arith, append-nil, append_assoc, []}
use Rattle.object_core.specs.declared.op.Op.{Op}
use Rattle.store_core.specs.Request.{Sealed}
use Rattle.world_front.specs.Event.{Ask, Event, Auth, Map, Open, Renew, Close, Submit, ListNames, Deliver, Lose, Repeat, Kick, Fault}
use Rattle.world_front.specs.ControlPlane.{ControlPlane, if_ok, sealed_by, requests_of, requests_in}
use Rattle.world_front.specs.Stands.{FrontStands, IsKept}
use Rattle.world_front.proofs.Fronts.{Requested, submit_made, list_made}
use Rattle.world_front.proofs.Recording.{free_in, free_new, next_few}
use Rattle.world_events.specs.Submitting.{AreNew}

pub new_joined : (old xs ys : List Sealed) → AreNew old xs → AreNew (old ++ xs) ys → AreNew old (xs ++ ys)
new_joined old [] ys h k = subst (λ l. AreNew l ys) (append-nil old) k
new_joined old (x ∷ xs) ys h k = (h.0, new_joined (old ++ x ∷ []) xs ys h.1 (subst (λ l. AreNew l ys) (sym (append_assoc old (x ∷ []) xs)) k))

new_of : (f : ControlPlane) (rs : List Sealed) → FrontStands f → length f.submissions ≤ 33554432 → length rs ≤ 33554432 → (ask : Ask) → Requested f ask rs → AreNew f.submissions rs
new_of f rs h few room ask q =
    let bare : ControlPlane = record f { lists = [] } in
    let kept : IsKept bare = record { stands = record { given = h.given; most = h.most; asked = h.asked; sealed = h.sealed }; few = omega arith; begun = tt } in
    let next : q.session.next ≤ 67108929 = next_few bare ask.session q.session kept q.open_one in
    free_new f.submissions rs ask.session q.session.next (free_in bare ask.session q.session kept q.open_one) (omega arith) q.numbered

submit_new : (f : ControlPlane) (ask : Ask) (object : List ℕ) (ops : List Op) → FrontStands f → length f.submissions ≤ 33554432 → length (sealed_by f (Submit ask object ops)) ≤ 33554432 → AreNew f.submissions (sealed_by f (Submit ask object ops))
submit_new f ask object ops h few room = go (requests_of f (Submit ask object ops)) refl room
  where
    go : (r : Result (List Sealed) Fault) → requests_of f (Submit ask object ops) ≡ r → length (if_ok r [] (λ rs. rs)) ≤ 33554432 → AreNew f.submissions (if_ok r [] (λ rs. rs))
    go (Err fault) is long = tt
    go (Ok rs) is long = new_of f rs h few long ask (submit_made f ask object ops rs is)

list_new : (f : ControlPlane) (ask : Ask) → FrontStands f → length f.submissions ≤ 33554432 → length (sealed_by f (ListNames ask)) ≤ 33554432 → AreNew f.submissions (sealed_by f (ListNames ask))
list_new f ask h few room = go (requests_of f (ListNames ask)) refl room
  where
    go : (r : Result (List Sealed) Fault) → requests_of f (ListNames ask) ≡ r → length (if_ok r [] (λ rs. rs)) ≤ 33554432 → AreNew f.submissions (if_ok r [] (λ rs. rs))
    go (Err fault) is long = tt
    go (Ok rs) is long = new_of f rs h few long ask (list_made f ask rs is)

-- the requests of any event
pub event_new : (f : ControlPlane) (e : Event) → FrontStands f → length f.submissions ≤ 33554432 → length (sealed_by f e) ≤ 33554432 → AreNew f.submissions (sealed_by f e)
unfolding requests_of requests_in
event_new f (Submit ask object ops) h few room = submit_new f ask object ops h few room
event_new f (ListNames ask) h few room = list_new f ask h few room
event_new f (Auth command) h few room = tt
event_new f (Map command) h few room = tt
event_new f (Open entity until) h few room = tt
event_new f (Renew n until) h few room = tt
event_new f (Close n) h few room = tt
event_new f (Deliver id k) h few room = tt
event_new f (Lose id k) h few room = tt
event_new f (Repeat id k) h few room = tt
event_new f (Kick id) h few room = tt
