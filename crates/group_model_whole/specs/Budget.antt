-- Statement: contracts of public calls use it.
-- How many deliveries a group can still make.
use Rattle.std.specs.Prelude.{ℕ, ◌+◌, ◌*◌, ◌≤◌, List, [], ◌∷◌, length, Option, Some, None}
use Rattle.group_model_whole.specs.Steps.{Stepped}
use Rattle.group_model_whole.specs.Group.{Group, settle, delivered}
use Rattle.group_model_whole.specs.Types.{Role, Idle, Peering, Installing, Active, Daemon, Body, Interval, Query, Info, Install, Installed, Append, Appended, Request, Reply, NotHere, Sent}

abbrev pub body_budget : Body → ℕ
body_budget (Interval sets) = 39
body_budget (Query n) = 2
body_budget (Info n base log) = 1
body_budget (Install n log) = 2
body_budget (Installed n) = 1
body_budget (Append n index s) = 2
body_budget (Appended n index) = 1
body_budget (Request s) = 10
body_budget (Reply id reply) = 1
body_budget (NotHere id) = 1

abbrev pub sent_budget : List Sent → ℕ
sent_budget [] = 0
sent_budget (m ∷ ms) = body_budget m.body + sent_budget ms

abbrev pub flight_budget : Option (List ℕ) → ℕ
flight_budget None = 0
flight_budget (Some holders) = 1

abbrev pub role_budget : Role → ℕ
role_budget Idle = 0
role_budget (Peering informed) = 8
role_budget (Installing done) = 0
role_budget (Active flight) = flight_budget flight

abbrev pub copy_budget : Daemon → ℕ
copy_budget c = role_budget c.role + 9 * length c.waiting

abbrev pub copies_budget : List Daemon → ℕ
copies_budget [] = 0
copies_budget (c ∷ cs) = copy_budget c + copies_budget cs

abbrev pub budget : Group → ℕ
budget g = sent_budget g.wire + copies_budget g.copies

-- a step on a message of that budget lowers the sum by at least one
abbrev pub Lowers : ℕ → Daemon → Stepped → Type 0
Lowers of_body c s = copy_budget s.copy + sent_budget s.sent + 1 ≤ copy_budget c + of_body

-- message 0 delivered until none is left, and how many of these reached their addressee
abbrev pub settled_group : Group → Group
settled_group g = settle (budget g) g

abbrev pub settle_count : Group → ℕ
settle_count g = delivered (budget g) g
