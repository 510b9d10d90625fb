-- Refinement: only contracts inside the crate use it.
-- What a table of profiles stands for.
use Rattle.std.specs.Prelude.{◌≡◌, ℕ, ◌≤◌, List, map, length, take, Some, slice_get, String, string_bytes}
use Rattle.std.specs.declared.alloc.Global.{Global}
use Rattle.grant_core.specs.Flat.{Table, flat}
use Rattle.grant_core.specs.declared.table.Profile.{Profile}

abbrev pub Entries : Type 0
Entries = List (String Global × Profile)

abbrev pub table_of : Entries → Table
table_of entries = map (λ e. (string_bytes e.0, e.1.body)) entries

-- each profile's size is how many grants its body expands to with the profiles before it
pub record IsSized (entries : Entries) : Type 0 where
  pub few : length entries ≤ 32
  pub sizes : (k : ℕ) (e : String Global × Profile) → slice_get entries k ≡ Some e → e.1.size ≡ length (flat (take k (table_of entries)) e.1.body)
  pub small : (k : ℕ) (e : String Global × Profile) → slice_get entries k ≡ Some e → e.1.size ≤ 256
