-- Statement: contracts of public calls use it.
-- The objects of a group, and what is decided by them alone.
-- An object is of the group that its name hashes to, with the number of groups that its pool has.
use Rattle.std.specs.Prelude.{◌≡◌, ℕ, List}
use Rattle.std.specs.FinMap.{get}
use Rattle.place_core.specs.Placement.{group_of}
use Rattle.store_core.specs.Request.{Sealed, Work, Vector, Listing}
use Rattle.store_core.specs.Store.{Store, ObjectName}
use Rattle.store_core.specs.Deciding.{decision_on}
use Rattle.store_core.specs.declared.sealed.GroupId.{GroupId}

-- the group that a request is sealed for
abbrev pub group_for : Sealed → GroupId
group_for s = record { pool = s.view.pool; number = s.group }

-- the object is one of the group's: groups tells how many groups a pool has
pub record IsIn (groups : List ℕ → ℕ) (group : GroupId) (name : ObjectName) : Type 0 where
  pub pool : name.pool ≡ group.pool
  pub hash : group_of name.namespace name.name (groups group.pool) ≡ group.number

-- the two stores hold the same at each object of the group
abbrev pub AgreeIn : (List ℕ → ℕ) → GroupId → Store → Store → Type 0
AgreeIn groups group a b = (name : ObjectName) → IsIn groups group name → get a name ≡ get b name

-- a vector's object hashes to the group that it is sealed for; a listing piece may be of any group
abbrev pub Hashes : (groups : ℕ) → (namespace : List ℕ) → (group : ℕ) → Work → Type 0
Hashes groups namespace group (Vector object ops) = group_of namespace object groups ≡ group
Hashes groups namespace group Listing = Unit {0}

-- sealed for the group of its object, with the number of groups that its pool has
pub record IsPlaced (groups : List ℕ → ℕ) (s : Sealed) : Type 0 where
  pub counts : s.view.pg_num ≡ groups s.view.pool
  pub hashes : Hashes s.view.pg_num s.namespace s.group s.work

-- stores that agree on a group's objects decide alike each request that is sealed for it
abbrev pub SealedDecideAlike : Type 0
SealedDecideAlike = (groups : List ℕ → ℕ) (s : Sealed) (a b : Store) → IsPlaced groups s → AgreeIn groups (group_for s) a b → decision_on a s ≡ decision_on b s
