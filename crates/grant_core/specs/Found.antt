-- Refinement: only contracts inside the crate use it.
-- Where a name stands in a table.
use Rattle.std.specs.Prelude.{◌≡◌, ℕ, ◌<◌, List, map, reverse, take, Some, slice_get, String}
use Rattle.std.specs.declared.alloc.Global.{Global}
use Rattle.cap_grants.specs.declared.grant.ProfileUse.{ProfileUse}
use Rattle.grant_core.specs.Flat.{Flat, parts_of, numbered, filled}
use Rattle.grant_core.specs.Table.{Entries, table_of}
use Rattle.grant_core.specs.declared.table.Profile.{Profile}

-- what a use expands to with the profiles before a place
abbrev pub parts_before : Entries → ℕ → ProfileUse → Flat
parts_before entries before used = parts_of (reverse (take before (table_of entries))) used

-- the profile of this name stands at place, before the other place
pub record IsFound (entries : Entries) (before : ℕ) (name : List ℕ) (place : ℕ) (profile : Profile) : Type 0 where
  pub within : place < before
  pub key : String Global
  pub there : slice_get entries place ≡ Some (key, profile)
  pub means : (used : ProfileUse) → used.name ≡ name → parts_before entries before used ≡ numbered (parts_of (reverse (take place (table_of entries)))) 1 (map (filled used) profile.body)
