-- Refinement: only contracts inside the crate use it.
-- Where names stand first among entities.
use Rattle.std.specs.Prelude.{◌≡◌, ℕ, suc, List, [], ◌∷◌, Option, Some, None, String, string_bytes, if◌then◌else◌}
use Rattle.std.specs.Map.{lookup}
use Rattle.std.specs.Option.{option_map}
use Rattle.std.specs.Str.{bytes_eq}
use Rattle.std.specs.declared.alloc.Global.{Global}
use Rattle.verdict_text.specs.declared.entity.Entity.{Entity}

abbrev pub Places : Type 0
Places = List (String Global × ℕ)

-- what places say of a name
abbrev pub place_of : Places → List ℕ → Option ℕ
place_of places name = lookup (λ (key : String Global). bytes_eq name (string_bytes key)) places

-- the first place of a name
abbrev pub place_in : List Entity → List ℕ → Option ℕ
place_in [] name = None
place_in (e ∷ es) name = if bytes_eq name (string_bytes e.name) then Some 0 else option_map suc (place_in es name)

-- the places say of each name where it stands first
abbrev pub AreFirstPlaces : Places → List Entity → Type 0
AreFirstPlaces places entities = (name : List ℕ) → place_of places name ≡ place_in entities name
