-- Refinement: only contracts inside the crate use it.
-- What a search does: it finds places that were not found before, each with the chain that found it.
use Rattle.std.specs.Prelude.{ℕ, ◌≡◌, ◌<◌, ◌≤◌, ◌⊎◌, List, [], ◌∷◌, ◌++◌, None, Vec, IsSome, nat_eq}
use Rattle.std.specs.Map.{lookup}
use Rattle.std.specs.declared.alloc.Global.{Global}
use Rattle.flow_core.specs.declared.chains.Found.{Found}

-- places with the chains that found them, in the order in which they were found
abbrev pub Entries : Type 0
Entries = List (ℕ × Vec ℕ Global)

-- what is found, as an entry
abbrev pub entry_of : Found → ℕ × Vec ℕ Global
entry_of found = (found.end, found.chain)

-- nothing is done, since the place does not exist or was found
pub record IsKnown (places place : ℕ) (found found' : Entries) : Type 0 where
  pub known : (places ≤ place) ⊎ IsSome (lookup (nat_eq place) found)
  pub same : found' ≡ found

-- the place is found by the chain with the place behind it
pub record IsNew (places : ℕ) (chain : List ℕ) (place : ℕ) (found found' : Entries) : Type 0 where
  pub exists : place < places
  pub unknown : lookup (nat_eq place) found ≡ None
  pub longer : Vec ℕ Global
  pub is_longer : longer.items ≡ chain ++ place ∷ []
  pub added : found' ≡ found ++ (place, longer) ∷ []

abbrev pub Finds : ℕ → List ℕ → ℕ → Entries → Entries → Type 0
Finds places chain place found found' = IsKnown places place found found' ⊎ IsNew places chain place found found'

-- one place after another
abbrev pub FindsEach : ℕ → List ℕ → List ℕ → Entries → Entries → Type 0
FindsEach places chain [] found found' = found' ≡ found
FindsEach places chain (place ∷ next) found found' =
    (between : Entries) × Finds places chain place found between × FindsEach places chain next between found'
