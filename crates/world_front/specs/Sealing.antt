-- Statement: contracts of public calls use it.
-- Sessions and the map, and what they seal: a request takes the ticket that its session has, and the pool as the asker saw it. No
-- user, group, copy or message stands here.
use Rattle.std.specs.Prelude.{ℕ, ◌+◌, ◌-◌, ◌*◌, List, [], ◌∷◌, Bool, true, false, ◌||◌, ◌&&◌, not, if◌then◌else◌, ◌==◌, Option, None, Some, Result, Ok, Err, length, slice_get, slice_set, nat_lt, nat_le, map}
use Rattle.std.specs.List.{list_all, range_with_len}
use Rattle.map_core.specs.State.{History}
use Rattle.map_core.specs.Map.{epoch_of, view_at}
use Rattle.map_core.specs.declared.pool.PoolView.{PoolView}
use Rattle.place_core.specs.Placement.{group_of}
use Rattle.object_core.specs.Needs.{needs_fault}
use Rattle.object_core.specs.declared.op.Op.{Op}
use Rattle.store_core.specs.Request.{Sealed, Work, Vector, Listing, numbers}
use Rattle.world_front.specs.Event.{Ask, Event, Submit, ListNames, Fault, NoSession, NoPool, BadObjectName, StaleEpoch, StaleTick, OfNeeds}
pub use Rattle.world_front.specs.declared.session.Session.{Session}

-- ---- answers that go on

infixl 10 ◌>>=◌
abbrev pub ◌>>=◌ : {A B E : Type 0} → Result A E → (A → Result B E) → Result B E
Ok x >>= f = f x
Err e >>= f = Err e

-- the value of an option, or this fault where it is empty
abbrev pub need : {A : Type 0} → Option A → Fault → Result A Fault
need None fault = Err fault
need (Some x) fault = Ok x

-- refused by this fault where the test holds
abbrev pub refuse_if : Bool → Fault → Result (Unit {0}) Fault
refuse_if true fault = Err fault
refuse_if false fault = Ok tt

-- a refusal of a lower layer
abbrev pub lower : {E : Type 0} → (E → Fault) → Option E → Result (Unit {0}) Fault
lower wrap None = Ok tt
lower wrap (Some fault) = Err (wrap fault)

abbrev pub if_ok : {A B E : Type 0} → Result A E → B → (A → B) → B
if_ok (Ok x) other f = f x
if_ok (Err e) other f = other

abbrev pub error_of : {A E : Type 0} → Result A E → Option E
error_of (Ok x) = None
error_of (Err e) = Some e

-- ---- sessions

abbrev pub if_open : Option Session → Result Session Fault
if_open None = Err NoSession
if_open (Some s) = if s.is_closed then Err NoSession else Ok s

-- the open session of a number
abbrev pub session_of : List Session → ℕ → Result Session Fault
session_of sessions n = if n == 0 then Err NoSession else if_open (slice_get sessions (n - 1))

-- with that open session changed
abbrev pub session_at : List Session → ℕ → (Session → Session) → List Session
session_at sessions n change = if_ok (session_of sessions n) sessions (λ s. slice_set sessions (n - 1) (change s))

-- ---- requests

-- who asks, and the pool as the asker saw it
pub record Asker : Type 0 where
  pub session : Session
  pub view : PoolView

abbrev pub asker_in : List Session → History → Ask → Result Asker Fault
asker_in sessions history ask =
    session_of sessions ask.session >>= λ s.
    refuse_if (nat_lt ask.epoch s.epoch || nat_lt (epoch_of history) ask.epoch) StaleEpoch >>= λ _.
    refuse_if (nat_lt ask.tick s.tick) StaleTick >>= λ _.
    need (view_at history ask.pool ask.epoch) NoPool >>= λ view.
    Ok (record { session = s; view = view })

-- bytes 33 to 126, as many as the limits say
abbrev pub is_printable : ℕ → ℕ → List ℕ → Bool
is_printable least most name = nat_le least (length name) && nat_le (length name) most && list_all (λ b. nat_le 33 b && nat_le b 126) name

abbrev pub is_object_name : List ℕ → Bool
is_object_name = is_printable 1 255

abbrev pub is_namespace : List ℕ → Bool
is_namespace = is_printable 0 64

-- the id of a session's request, as one number
abbrev pub id_of : (session number : ℕ) → ℕ
id_of session number = session * numbers + number

-- The request with all that it is decided by; offset counts the requests of one event. This is the one place where a request is sealed.
abbrev pub sealed_of : Ask → Asker → Work → (group offset : ℕ) → Sealed
sealed_of ask asker work group offset = record {
  id = id_of ask.session (asker.session.next + offset);
  ticket = asker.session.ticket;
  tick = ask.tick;
  view = asker.view;
  group = group;
  namespace = ask.namespace;
  work = work;
}

abbrev pub vector_of : Ask → Asker → List ℕ → List Op → Sealed
vector_of ask asker object ops = sealed_of ask asker (Vector object ops) (group_of ask.namespace object asker.view.pg_num) 0

-- one piece for each group of the pool
abbrev pub pieces_of : Ask → Asker → List Sealed
pieces_of ask asker = map (λ n. sealed_of ask asker Listing n n) (range_with_len 0 asker.view.pg_num)

-- the requests of an event, or the fault that refuses it
unfoldable pub requests_in : List Session → History → Event → Result (List Sealed) Fault
requests_in sessions history (Submit ask object ops) =
    asker_in sessions history ask >>= λ asker.
    refuse_if (not (is_object_name object && is_namespace ask.namespace)) BadObjectName >>= λ _.
    lower OfNeeds (needs_fault ops) >>= λ _.
    Ok (vector_of ask asker object ops ∷ [])
requests_in sessions history (ListNames ask) =
    asker_in sessions history ask >>= λ asker.
    refuse_if (not (is_namespace ask.namespace)) BadObjectName >>= λ _.
    Ok (pieces_of ask asker)
requests_in sessions history e = Ok []
