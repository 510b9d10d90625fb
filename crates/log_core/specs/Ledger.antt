-- Statement: contracts of public calls use it.
-- How the requests of a log are counted: each decision whose entity and object are known, once.
use Rattle.std.specs.Prelude.{◌≡◌, ℕ, ◌+◌, ◌-◌, ◌^◌, min, List, [], ◌∷◌, ◌++◌, Option, None, Some}
use Rattle.std.specs.Option.{option_to_list}
use Rattle.log_core.specs.Log.{Remembers, entity_of, object_of}
use Rattle.log_core.specs.Tally.{HasSummaries, summary_of}
use Rattle.log_core.specs.declared.tally.Summary.{Summary}
use Rattle.log_core.specs.declared.line.Line.{Line}
use Rattle.log_core.specs.declared.line.Line.TheVariants.{Session, Operation, Decision, Cut}
use Rattle.log_core.specs.declared.ledger.Ledger.{Ledger}
use Rattle.log_core.specs.declared.line_counts.LineCounts.{LineCounts}
use Rattle.log_core.specs.declared.request.Request.{Request}

-- what the repetitions of a request have in common: its entity, its object and its text, with line feeds between them
abbrev pub key_of : Request → List ℕ
key_of request = request.entity ++ 10 ∷ (request.object ++ 10 ∷ request.text)

abbrev pub request_from : Option (List ℕ) → Option (List ℕ) → List ℕ → Option Request
request_from None object text = None
request_from (Some entity) None text = None
request_from (Some entity) (Some object) text = Some (record { entity = entity; object = object; text = text })

-- the request that a line decides, by the lines before it
abbrev pub request_at : List Line → Line → Option Request
request_at before (Session name entity) = None
request_at before (Operation thread object) = None
request_at before (Decision thread session time text) = request_from (entity_of before session) (object_of before thread) text
request_at before Cut = None

abbrev pub timed : Option Request → List ℕ → List (List ℕ × List ℕ) → List (List ℕ × List ℕ)
timed None time requests = requests
timed (Some request) time requests = (key_of request, time) ∷ requests

-- Of these lines, the newest first: the requests that they decide, each with its time.
abbrev pub decided : List Line → List (List ℕ × List ℕ)
decided [] = []
decided (Session name entity ∷ before) = decided before
decided (Operation thread object ∷ before) = decided before
decided (Decision thread session time text ∷ before) = timed (request_from (entity_of before session) (object_of before thread) text) time (decided before)
decided (Cut ∷ before) = decided before

-- ---- how many lines there are of each kind

abbrev pub more : ℕ → ℕ
more count = min (count + 1) (2 ^ 64 - 1)

abbrev pub with_session : LineCounts → LineCounts
with_session c = record { sessions = more c.sessions; decisions = c.decisions; without_entity = c.without_entity; without_object = c.without_object; cut = c.cut }

abbrev pub with_cut : LineCounts → LineCounts
with_cut c = record { sessions = c.sessions; decisions = c.decisions; without_entity = c.without_entity; without_object = c.without_object; cut = more c.cut }

-- a decision by whether its entity and its object are known
abbrev pub with_decision : Option (List ℕ) → Option (List ℕ) → LineCounts → LineCounts
with_decision None object c = record { sessions = c.sessions; decisions = more c.decisions; without_entity = more c.without_entity; without_object = c.without_object; cut = c.cut }
with_decision (Some entity) None c = record { sessions = c.sessions; decisions = more c.decisions; without_entity = c.without_entity; without_object = more c.without_object; cut = c.cut }
with_decision (Some entity) (Some object) c = record { sessions = c.sessions; decisions = more c.decisions; without_entity = c.without_entity; without_object = c.without_object; cut = c.cut }

abbrev pub counts_of : List Line → LineCounts
counts_of [] = record { sessions = 0; decisions = 0; without_entity = 0; without_object = 0; cut = 0 }
counts_of (Session name entity ∷ before) = with_session (counts_of before)
counts_of (Operation thread object ∷ before) = counts_of before
counts_of (Decision thread session time text ∷ before) = with_decision (entity_of before session) (object_of before thread) (counts_of before)
counts_of (Cut ∷ before) = with_cut (counts_of before)

-- ---- whole logs

-- a ledger has all that these lines tell, the newest first
pub record HasRead (lines : List Line) (ledger : Ledger) : Type 0 where
  pub remembers : Remembers lines ledger.pairing
  pub requests : HasSummaries (decided lines) ledger.tally
  pub counts : ledger.counts ≡ counts_of lines

abbrev pub unless_seen : Option Summary → Request → Option Request
unless_seen None request = Some request
unless_seen (Some summary) request = None

abbrev pub if_new : List (List ℕ × List ℕ) → Option Request → Option Request
if_new seen None = None
if_new seen (Some request) = unless_seen (summary_of seen (key_of request)) request

-- the request of a line, if no line before it decides the same
abbrev pub new_at : List Line → Line → Option Request
new_at before line = if_new (decided before) (request_at before line)

-- the distinct requests of some lines, in order, behind the lines before them
abbrev pub new_from : List Line → List Line → List Request
new_from before [] = []
new_from before (line ∷ lines) = option_to_list (new_at before line) ++ new_from (line ∷ before) lines

-- these lines behind those before them, the newest first
abbrev pub behind : List Line → List Line → List Line
behind before [] = before
behind before (line ∷ lines) = behind (line ∷ before) lines
