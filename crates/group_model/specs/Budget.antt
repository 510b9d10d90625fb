-- Statement: contracts of public calls use it.
-- How many deliveries a group can still make.
use Rattle.std.specs.Prelude.{ℕ, ◌+◌, ◌*◌, List, [], ◌∷◌, length}
use Rattle.group_model_whole.specs.Budget.{flight_budget}
use Rattle.group_model.specs.Group.{Group, settle, delivered}
use Rattle.group_model.specs.Types.{Role, Idle, Peering, Installing, Active, Copy, Body, Interval, Query, Info, Install, Installed, Append, Appended, Request, Reply, NotHere, Sent}

abbrev pub body_budget : Body → ℕ
body_budget (Interval sets) = 39
body_budget (Query n len end) = 2
body_budget (Info n base start part) = 1
body_budget (Install n start part) = 2
body_budget (Installed n) = 1
body_budget (Append n index s) = 2
body_budget (Appended n index) = 1
body_budget (Request s) = 10
body_budget (Reply id reply) = 1
body_budget (NotHere id) = 1

abbrev pub sent_budget : List Sent → ℕ
sent_budget [] = 0
sent_budget (m ∷ ms) = body_budget m.body + sent_budget ms

abbrev pub role_budget : Role → ℕ
role_budget Idle = 0
role_budget (Peering informed) = 8
role_budget (Installing done common) = 0
role_budget (Active flight) = flight_budget flight

abbrev pub copy_budget : Copy → ℕ
copy_budget c = role_budget c.role + 9 * length c.waiting

abbrev pub copies_budget : List Copy → ℕ
copies_budget [] = 0
copies_budget (c ∷ cs) = copy_budget c + copies_budget cs

abbrev pub budget : Group → ℕ
budget g = sent_budget g.wire + copies_budget g.copies

-- message 0 delivered until none is left, and how many of these reached their addressee
abbrev pub settled_group : Group → Group
settled_group g = settle (budget g) g

abbrev pub settle_count : Group → ℕ
settle_count g = delivered (budget g) g
