-- Statement: contracts of public calls use it.
-- What was read of the grant that a text is in.
use Rattle.std.specs.Prelude.{ℕ, List, Option}
use Rattle.cap_grants.specs.declared.grant.Access.{Access}
use Rattle.cap_grants.specs.declared.grant.NsMatch.{NsMatch}
use Rattle.cap_grants.specs.declared.grant.Tag.{Tag}

-- what a grant begins with; the access of an allow may come behind its clauses
pub data Head : Type 0 where
  Allow : Option Access → Head
  Profile : List ℕ → Head

-- what was read of a grant
pub record Draft : Type 0 where
  pub head : Head
  pub pool : Option (List ℕ)
  pub namespace : Option NsMatch
  pub prefix : Option (List ℕ)
  pub tag : Option Tag
