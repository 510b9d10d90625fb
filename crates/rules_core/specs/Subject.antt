-- Statement: contracts of public calls use it.
-- An entity of a cluster, as rules see it.
use Rattle.std.specs.Prelude.{ℕ, List, Option}
use Rattle.rights_core.specs.Rights.{Rights}

-- its name, and its rights if its text could be read
pub record Subject : Type 0 where
  pub name : List ℕ
  pub rights : Option Rights
