-- Statement: contracts of public calls use it.
-- What the pieces of a list result in: the names of a pool's namespace.
use Rattle.std.specs.Prelude.{◌≡◌, true, ◌<◌, ◌≤◌, Bool, ◌&&◌, ℕ, List, map}
use Rattle.std.specs.List.{flat_map, filter, range_with_len}
use Rattle.std.specs.Str.{bytes_eq}
use Rattle.std.specs.FinMap.{keys}
use Rattle.store_core.specs.Request.{Sealed, Listing}
use Rattle.store_core.specs.Store.{Store, ObjectName}
use Rattle.store_core.specs.Deciding.{store_of, is_allowed_sealed, names_in as names_decided}
use Rattle.entry_core.specs.Log.{decide}
use Rattle.store_core.specs.declared.entry.Entry.{Entry}
use Rattle.store_core.specs.declared.reply.Reply.TheVariants.{Names}
use Rattle.world_core.specs.Listing.{joined, sorted}

abbrev pub is_there : List ℕ → List ℕ → ObjectName → Bool
is_there pool namespace n = bytes_eq n.pool pool && bytes_eq n.namespace namespace

-- the objects that a pool and namespace have, in the order of their names
abbrev pub objects_of : Store → List ℕ → List ℕ → List ObjectName
objects_of store pool namespace = filter (is_there pool namespace) (keys store)

-- the piece of a list for one group, of a pool that has `groups` groups
pub record IsPiece (pool namespace : List ℕ) (groups group : ℕ) (s : Sealed) : Type 0 where
  pub pool_is : s.view.pool ≡ pool
  pub groups_is : s.view.pg_num ≡ groups
  pub namespace_is : s.namespace ≡ namespace
  pub group_is : s.group ≡ group

-- one piece for each group, decided on stores that have the same objects there, whatever they hold: the names together, sorted, are those of these objects
abbrev pub PiecesAreTheNamespace : Type 0
PiecesAreTheNamespace = (pool namespace : List ℕ) (groups : ℕ) (pieces : ℕ → Sealed) (stores : ℕ → Store) (objects : List ObjectName) → 1 ≤ groups
    → ((i : ℕ) → i < groups → IsPiece pool namespace groups i (pieces i)) → ((i : ℕ) → i < groups → objects_of (stores i) pool namespace ≡ objects)
    → sorted (flat_map (λ i. names_decided (stores i) (pieces i)) (range_with_len 0 groups)) ≡ map (λ n. n.name) objects

-- what the client is shown of such pieces, where each is allowed: exactly the names of these objects
abbrev pub PiecesAnswerTheNamespace : Type 0
PiecesAnswerTheNamespace = (pool namespace : List ℕ) (groups : ℕ) (pieces : ℕ → Sealed) (logs : ℕ → List Entry) (objects : List ObjectName) → 1 ≤ groups
    → ((i : ℕ) → i < groups → IsPiece pool namespace groups i (pieces i)) → ((i : ℕ) → i < groups → objects_of (store_of (logs i)) pool namespace ≡ objects)
    → ((i : ℕ) → i < groups → (pieces i).work ≡ Listing) → ((i : ℕ) → i < groups → is_allowed_sealed (pieces i) ≡ true)
    → joined (map (λ i. (decide (logs i) (pieces i)).reply) (range_with_len 0 groups)) ≡ Names (map (λ n. n.name) objects)
