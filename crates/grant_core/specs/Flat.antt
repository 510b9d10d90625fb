-- Statement: contracts of public calls use it.
-- The expansion of a list of grants: each use of a profile is replaced by the profile's grants.
-- Profiles are those of Ceph User Management; how a use fills its profile's grants is this project's profile.
use Rattle.std.specs.Prelude.{ℕ, ◌+◌, List, [], ◌∷◌, ◌++◌, map, reverse, if◌then◌else◌, is_some}
use Rattle.std.specs.Option.{option_or}
use Rattle.std.specs.Str.{bytes_eq}
use Rattle.cap_grants.specs.declared.grant.AllowGrant.{AllowGrant}
use Rattle.cap_grants.specs.declared.grant.Grant.{Grant}
use Rattle.cap_grants.specs.declared.grant.Grant.TheVariants.{Allow, Profile}
use Rattle.cap_grants.specs.declared.grant.ProfileUse.{ProfileUse}

-- profiles by name, in the order in which they were added
abbrev pub Table : Type 0
Table = List (List ℕ × List Grant)

-- the grants that are left, each with its path: the numbers from 1 that lead to it
abbrev pub Flat : Type 0
Flat = List (List ℕ × AllowGrant)

-- an allow of a profile's body where the profile is used: one with a pool of its own takes nothing
abbrev pub filled_allow : ProfileUse → AllowGrant → AllowGrant
filled_allow used g = if is_some g.pool then g else record g { pool = used.pool; namespace = option_or g.namespace used.namespace }

-- a use in a profile's body where that profile is used
abbrev pub filled_use : ProfileUse → ProfileUse → ProfileUse
filled_use used inner = if is_some inner.pool then inner else record inner { pool = used.pool; namespace = option_or inner.namespace used.namespace }

-- a grant of a profile's body where the profile is used
abbrev pub filled : ProfileUse → Grant → Grant
filled used (Allow g) = Allow (filled_allow used g)
filled used (Profile inner) = Profile (filled_use used inner)

-- a grant under the number of the use before it
abbrev pub under : ℕ → List ℕ × AllowGrant → List ℕ × AllowGrant
under number entry = (number ∷ entry.0, entry.1)

-- a list's grants from a number on: an allow at its own number, those of a use under the use's number
abbrev pub numbered : (ProfileUse → Flat) → ℕ → List Grant → Flat
numbered parts number [] = []
numbered parts number (Allow g ∷ gs) = (number ∷ [], g) ∷ numbered parts (number + 1) gs
numbered parts number (Profile used ∷ gs) = map (under number) (parts used) ++ numbered parts (number + 1) gs

-- What a use expands to: its profile's filled body. The newest profile is first; a body may name those after its own.
abbrev pub parts_of : Table → ProfileUse → Flat
parts_of [] used = []
parts_of (profile ∷ before) used =
    if bytes_eq used.name profile.0 then numbered (parts_of before) 1 (map (filled used) profile.1) else parts_of before used

-- what a list expands to with a table
abbrev pub flat : Table → List Grant → Flat
flat table grants = numbered (parts_of (reverse table)) 1 grants
