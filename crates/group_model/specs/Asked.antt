-- Statement: contracts of public calls use it.
-- Where a request that a group holds comes from.
use Rattle.store_core.specs.Request.{Sealed}
use Rattle.group_model_whole.specs.Asked.{IsAsked, InLog}
use Rattle.group_model_whole.specs.Each.{Each}
use Rattle.group_model.specs.Group.{Group}
use Rattle.group_model.specs.Types.{Role, Idle, Peering, Installing, Active, Copy, Body, Interval, Query, Info, Install, Installed, Append, Appended, Request, Reply, NotHere}

-- a fact of each request in a role, a copy, a message

abbrev pub InRole : (Sealed → Type 0) → Role → Type 0
InRole P Idle = Unit {0}
InRole P (Peering informed) = Each (λ i. Each P i.part) informed
InRole P (Installing done common) = Unit {0}
InRole P (Active flight) = Unit {0}

pub record InCopy (P : Sealed → Type 0) (c : Copy) : Type 0 where
  pub log : InLog P c.log
  pub waiting : Each P c.waiting
  pub role : InRole P c.role

abbrev pub InBody : (Sealed → Type 0) → Body → Type 0
InBody P (Interval sets) = Unit {0}
InBody P (Query n len end) = Unit {0}
InBody P (Info n base start part) = Each P part
InBody P (Install n start part) = Each P part
InBody P (Installed n) = Unit {0}
InBody P (Append n index s) = P s
InBody P (Appended n index) = Unit {0}
InBody P (Request s) = P s
InBody P (Reply id reply) = Unit {0}
InBody P (NotHere id) = Unit {0}

-- each request that stands anywhere in the group is the one that was submitted under its number
pub record AllAsked (g : Group) : Type 0 where
  pub requests : Each (IsAsked g.requests) g.requests
  pub copies : Each (InCopy (IsAsked g.requests)) g.copies
  pub wire : Each (λ m. InBody (IsAsked g.requests) m.body) g.wire
  pub audit : InLog (IsAsked g.requests) g.audit
