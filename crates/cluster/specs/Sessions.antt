-- Statement: contracts of public calls use it.
-- The sessions that a pass has opened, by their numbers.
use Rattle.std.specs.Prelude.{◌≡◌, ℕ, ◌-◌, ◌<◌, ◌≤◌, ◌==◌, List, [], ◌∷◌, Option, Some, None, if◌then◌else◌, slice_get}
use Rattle.store_core.specs.Request.{numbers}
use Rattle.world_front.specs.ControlPlane.{id_of}
use Rattle.world_front.specs.Stands.{next_in}
use Rattle.world_front.specs.declared.session.Session.{Session}
use Rattle.cluster.specs.declared.pass.OwnSession.{OwnSession}

-- the session of a number
abbrev pub own_session : List OwnSession → ℕ → Option Session
own_session [] n = None
own_session (o ∷ os) n = if o.number == n then Some o.session else own_session os n

-- with that session changed
abbrev pub own_session_at : List OwnSession → ℕ → (Session → Session) → List OwnSession
own_session_at [] n change = []
own_session_at (o ∷ os) n change = if o.number == n then record o { session = change o.session } ∷ os else o ∷ own_session_at os n change

-- the number of its next request, and 0 where there is no such session
abbrev pub next_of : List OwnSession → ℕ → ℕ
next_of own n = next_in (own_session own n)

-- an id that one of these sessions has given
pub record IsNumbered (own : List OwnSession) (id : ℕ) : Type 0 where
  pub session : ℕ
  pub number : ℕ
  pub is : id ≡ id_of session number
  pub past : number < next_of own session
  pub fits : number < numbers

-- the sessions of some passes by their numbers, which count from 1: each is of one pass
pub record AreSessionsOf (all : List (List OwnSession)) (sessions : List Session) : Type 0 where
  pub each : (a n : ℕ) (own : List OwnSession) (s : Session) → slice_get all a ≡ Some own → own_session own n ≡ Some s → (1 ≤ n) × (slice_get sessions (n - 1) ≡ Some s)
  pub once : (a b n : ℕ) (own other : List OwnSession) (s t : Session) → slice_get all a ≡ Some own → slice_get all b ≡ Some other → own_session own n ≡ Some s → own_session other n ≡ Some t → a ≡ b
  pub every : (n : ℕ) (s : Session) → slice_get sessions (n - 1) ≡ Some s → 1 ≤ n → (a : ℕ) × (own : List OwnSession) × (slice_get all a ≡ Some own) × (own_session own n ≡ Some s)
