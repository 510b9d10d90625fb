-- What an event without requests leaves of a front.
use Rattle.std.proofs.Common.{◌≡◌, ◌∙◌, ℕ, ◌-◌, ◌≤◌, ◌<◌, true, List, [], ◌∷◌, ◌++◌, Option, is_some, length, refl, sym, ap, subst, arith, append-nil}
use Rattle.std.specs.Prelude.{Ok, slice_set}
use Rattle.auth_db.specs.Users.{Database, after}
use Rattle.map_core.specs.State.{History}
use Rattle.map_core.specs.declared.command.MapCommand.{MapCommand}
use Rattle.store_core.specs.Request.{Sealed}
use Rattle.group_model_whole.specs.Each.{Each}
use Rattle.group_model_whole.specs.Group.{submitted}
use Rattle.world_front.specs.Event.{AuthCommand, Event, Auth, Map, Open, Renew, Close}
use Rattle.world_front.specs.ControlPlane.{ControlPlane, Session, ListRange, command_of, front_step, lists_step, sealed_by, opened, ticket_for, session_at, session_of, if_ok, requests_of, requests_in}
use Rattle.world_front.specs.Stands.{IsKept}
use Rattle.world_front.proofs.Fronts.{front_stands}

pub auth_step : (f : ControlPlane) (command : AuthCommand) (d : Database) → d ≡ after f.database (command_of command) → record f { database = d } ≡ front_step f (Auth command)
unfolding requests_of requests_in
auth_step f command d is = λ i. record f { database = is i; submissions = sym (append-nil f.submissions) i }

pub map_step : (f : ControlPlane) (command : MapCommand) (h : History) → h ≡ record f.history { commands = f.history.commands ++ command ∷ [] } → record f { history = h } ≡ front_step f (Map command)
unfolding requests_of requests_in
map_step f command h is = λ i. record f { history = is i; submissions = sym (append-nil f.submissions) i }

pub open_step : (f : ControlPlane) (entity : List ℕ) (until : Option ℕ) (ss : List Session) → ss ≡ f.sessions ++ opened entity (ticket_for f.database entity until) ∷ [] → record f { sessions = ss } ≡ front_step f (Open entity until)
unfolding requests_of requests_in
open_step f entity until ss is = λ i. record f { sessions = is i; submissions = sym (append-nil f.submissions) i }

pub renew_step : (f : ControlPlane) (n : ℕ) (until : Option ℕ) (ss : List Session) → ss ≡ session_at f.sessions n (λ s. record s { ticket = ticket_for f.database s.entity until })
    → record f { sessions = ss } ≡ front_step f (Renew n until)
unfolding requests_of requests_in
renew_step f n until ss is = λ i. record f { sessions = is i; submissions = sym (append-nil f.submissions) i }

pub close_step : (f : ControlPlane) (n : ℕ) (ss : List Session) → ss ≡ session_at f.sessions n (λ s. record s { is_closed = true }) → record f { sessions = ss } ≡ front_step f (Close n)
unfolding requests_of requests_in
close_step f n ss is = λ i. record f { sessions = is i; submissions = sym (append-nil f.submissions) i }

-- one change, or another that is the same for this session
pub session_same : (ss : List Session) (n : ℕ) (s : Session) (f g : Session → Session) → session_of ss n ≡ Ok s → f s ≡ g s → session_at ss n f ≡ session_at ss n g
session_same ss n s f g is same =
    ap (λ r. if_ok r ss (λ t. slice_set ss (n - 1) (f t))) is ∙ ap (slice_set ss (n - 1)) same ∙ sym (ap (λ r. if_ok r ss (λ t. slice_set ss (n - 1) (g t))) is)

-- what is kept, where an event has no requests
pub quiet_kept : (f : ControlPlane) (e : Event) (g : ControlPlane) → IsKept f → g ≡ front_step f e → sealed_by f e ≡ [] → lists_step f e ≡ f.lists → IsKept g
quiet_kept f e g h is none lists =
    let subs : (front_step f e).submissions ≡ f.submissions = ap (λ l. f.submissions ++ l) none ∙ append-nil f.submissions in
    let few : length f.submissions ≤ 67108928 = h.few in
    let room : length (front_step f e).submissions < 4294967296 = omega (arith, ap (λ (l : List Sealed). length l) subs) in
    let B : List Sealed → List ListRange → Type 0 = λ s l. Each (λ p. is_some (submitted s p.first) ≡ true) l in
    subst IsKept (sym is) (record {
      stands = (front_stands f e h.stands room).0;
      few = omega (arith, few, ap (λ (l : List Sealed). length l) subs);
      begun = subst (λ s. B s (lists_step f e)) (sym subs) (subst (B f.submissions) (sym lists) h.begun);
    })

pub map_kept : (f : ControlPlane) (command : MapCommand) (g : ControlPlane) → IsKept f → g ≡ front_step f (Map command) → IsKept g
unfolding requests_of requests_in
map_kept f command g h is = quiet_kept f (Map command) g h is refl refl

pub open_kept : (f : ControlPlane) (entity : List ℕ) (until : Option ℕ) (g : ControlPlane) → IsKept f → g ≡ front_step f (Open entity until) → IsKept g
unfolding requests_of requests_in
open_kept f entity until g h is = quiet_kept f (Open entity until) g h is refl refl

pub renew_kept : (f : ControlPlane) (n : ℕ) (until : Option ℕ) (g : ControlPlane) → IsKept f → g ≡ front_step f (Renew n until) → IsKept g
unfolding requests_of requests_in
renew_kept f n until g h is = quiet_kept f (Renew n until) g h is refl refl

pub close_kept : (f : ControlPlane) (n : ℕ) (g : ControlPlane) → IsKept f → g ≡ front_step f (Close n) → IsKept g
unfolding requests_of requests_in
close_kept f n g h is = quiet_kept f (Close n) g h is refl refl
