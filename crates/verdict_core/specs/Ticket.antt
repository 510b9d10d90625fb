-- Statement: contracts of public calls use it.
-- What an entity may do, and until when.
-- Source: this project's profile, after the tickets of Ceph's authentication, which also run out.
use Rattle.std.specs.Prelude.{ℕ, List, Option}
use Rattle.cap_grants.specs.declared.grant.AllowGrant.{AllowGrant}

-- the grants, each with its path, and the first tick at which they hold no more
pub record Ticket : Type 0 where
  pub grants : List (List ℕ × AllowGrant)
  pub until : Option ℕ
