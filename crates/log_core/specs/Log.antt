-- Statement: contracts of public calls use it.
-- Which lines of an OSD's log make one operation.
-- Source: PrimaryLogPG::do_op and OSD::ms_handle_fast_authentication of Ceph 16.2.15, as their logs at debug_osd 20 show them.
use Rattle.std.specs.Prelude.{◌≡◌, ℕ, List, [], ◌∷◌, Option, None, Some, if◌then◌else◌}
use Rattle.std.specs.Str.{bytes_eq}
use Rattle.std.specs.HashMap.{get_by_text}
use Rattle.log_core.specs.declared.line.Line.{Line}
use Rattle.log_core.specs.declared.line.Line.TheVariants.{Session, Operation, Decision, Cut}
use Rattle.log_core.specs.declared.pairing.Pair.{Pair}
use Rattle.log_core.specs.declared.pairing.Pairing.{Pairing}

-- Of these lines, the newest first: the entity of a session, which is that of its newest beginning. The memory of a session that ended may be given to another one.
abbrev pub entity_of : List Line → List ℕ → Option (List ℕ)
entity_of [] session = None
entity_of (Session name entity ∷ before) session = if bytes_eq name session then Some entity else entity_of before session
entity_of (Operation thread object ∷ before) session = entity_of before session
entity_of (Decision thread name time text ∷ before) session = entity_of before session
entity_of (Cut ∷ before) session = entity_of before session

-- the object of a thread's newest operation that is not decided yet
abbrev pub object_of : List Line → List ℕ → Option (List ℕ)
object_of [] thread = None
object_of (Session name entity ∷ before) thread = object_of before thread
object_of (Operation other object ∷ before) thread = if bytes_eq other thread then Some object else object_of before thread
object_of (Decision other name time text ∷ before) thread = if bytes_eq other thread then None else object_of before thread
object_of (Cut ∷ before) thread = object_of before thread

-- the entity and the object of a decision, by the lines before it
abbrev pub pair_of : List Line → Line → Option Pair
pair_of before (Session name entity) = None
pair_of before (Operation thread object) = None
pair_of before (Decision thread session time text) = Some (record { entity = entity_of before session; object = object_of before thread })
pair_of before Cut = None

-- what is remembered is that of these lines, the newest first
pub record Remembers (before : List Line) (pairing : Pairing) : Type 0 where
  pub entities : (session : List ℕ) → get_by_text pairing.entities session ≡ entity_of before session
  pub objects : (thread : List ℕ) → get_by_text pairing.objects thread ≡ object_of before thread
