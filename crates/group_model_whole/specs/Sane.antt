-- Refinement: only contracts inside the crate use it.
-- What holds of each copy by itself, whatever was delivered.
use Rattle.std.specs.Prelude.{ℕ, ◌≡◌, ◌≤◌, length}
use Rattle.entry_core.specs.Log.{Legal}
use Rattle.group_model_whole.specs.Types.{Role, Idle, Peering, Installing, Active, Daemon, Body, Interval, Query, Info, Install, Installed, Append, Appended, Request, Reply, NotHere}
use Rattle.group_model_whole.specs.Each.{Each}
use Rattle.group_model_whole.specs.Group.{Group}

-- a role is that of the interval that was promised, which is the last one known
abbrev pub RoleIsSane : Role → ℕ → ℕ → Type 0
RoleIsSane Idle promise known = Unit {0}
RoleIsSane (Peering informed) promise known = (promise ≡ known) × Each (λ i. Legal i.log) informed
RoleIsSane (Installing done) promise known = promise ≡ known
RoleIsSane (Active flight) promise known = promise ≡ known

pub record IsSane (c : Daemon) : Type 0 where
  pub base : c.base ≤ c.promise
  pub role : RoleIsSane c.role c.promise (length c.known)
  pub legal : Legal c.log

-- each log that is sent is legal
abbrev pub BodyIsLegal : Body → Type 0
BodyIsLegal (Interval sets) = Unit {0}
BodyIsLegal (Query n) = Unit {0}
BodyIsLegal (Info n base log) = Legal log
BodyIsLegal (Install n log) = Legal log
BodyIsLegal (Installed n) = Unit {0}
BodyIsLegal (Append n index s) = Unit {0}
BodyIsLegal (Appended n index) = Unit {0}
BodyIsLegal (Request s) = Unit {0}
BodyIsLegal (Reply id reply) = Unit {0}
BodyIsLegal (NotHere id) = Unit {0}

pub record AllSane (g : Group) : Type 0 where
  pub copies : Each IsSane g.copies
  pub wire : Each (λ m. BodyIsLegal m.body) g.wire
