-- Refinement: only contracts inside the crate use it.
-- How a log keeps its objects and where its entries stand.
use Rattle.std.specs.Prelude.{◌≡◌, ℕ, ◌+◌, ◌==◌, if◌then◌else◌, List, [], ◌∷◌, ◌++◌, Option, Some, None}
use Rattle.std.specs.Map.{lookup}
use Rattle.std.specs.Option.{option_map}
use Rattle.store_core.specs.Store.{Store}
use Rattle.store_core.specs.Deciding.{store_of, name_of}
use Rattle.store_core.specs.Objects.{changed, change_of}
use Rattle.entry_core.specs.Log.{Legal}
use Rattle.store_core.specs.declared.entry.Entry.{Entry}
use Rattle.store_core.specs.declared.decided.ObjectChange.{ObjectChange}

-- where the entry of a request's number stands, if there is one
abbrev pub place_in : List Entry → ℕ → Option ℕ
place_in [] id = None
place_in (e ∷ es) id = if e.sealed.id == id then Some 0 else option_map (λ n. n + 1) (place_in es id)

-- an index finds just the entries' numbers
abbrev pub Places : List (ℕ × ℕ) → List Entry → Type 0
Places index log = (id : ℕ) → lookup (λ n. id == n) index ≡ place_in log id

-- this change of the last entry's object, where it is known, leads back to the store before that entry
abbrev pub LeadsBack : List Entry → Option ObjectChange → Type 0
LeadsBack log None = Unit {0}
LeadsBack log (Some back) = (front : List Entry) (e : Entry) → front ++ e ∷ [] ≡ log → changed (store_of log) (name_of e.sealed) (change_of back) ≡ store_of front

-- a log's index finds just the entries' numbers, and its objects are the store that the entries make; the log is legal
pub record IsStored (log : List Entry) (index : List (ℕ × ℕ)) (objects : Store) (kept : Option ObjectChange) : Type 0 where
  pub places : Places index log
  pub made : objects ≡ store_of log
  pub legal : Legal log
  pub back : LeadsBack log kept
