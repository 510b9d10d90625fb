-- Statement: contracts of public calls use it.
-- The position in the grammar that a text has reached.
use Rattle.std.specs.Prelude.{ℕ, List}
use Rattle.cap_grants.specs.declared.grant.Flags.{Flags}
use Rattle.cap_grants.specs.declared.grant.Grant.{Grant}
use Rattle.cap_grants.specs.declared.grant.Part.{Part}
use Rattle.cap_text.specs.declared.stage.ClauseSet.{ClauseSet}
use Rattle.cap_text.specs.declared.stage.ValueFor.{ValueFor}
use Rattle.cap_text.specs.Draft.{Draft}

-- what may come next, and what was read of the next grant
pub data Stage : Type 0 where
  Start : Stage
  Separator : Stage
  Clauses : ClauseSet → Draft → Stage
  Letters : Flags → ClauseSet → Draft → Stage
  ClassRead : Flags → ClauseSet → Draft → Stage
  Method : List ℕ → ClauseSet → Draft → Stage
  Assigned : ValueFor → ClauseSet → Draft → Stage
  Value : ValueFor → ClauseSet → Draft → Stage
  Namespace : ClauseSet → Draft → Stage
  NamespaceEquals : ClauseSet → Draft → Stage
  NamespaceWord : List ℕ → ClauseSet → Draft → Stage
  Key : List ℕ → Draft → Stage
  KeyEquals : List ℕ → Part → Draft → Stage
  KeyValue : List ℕ → Part → Draft → Stage

-- the grants that are whole, and the stage in the next one
pub record State : Type 0 where
  pub done : List Grant
  pub stage : Stage
