-- Statement: contracts of public calls use it.
-- Why a profile is not added, and why a list is not expanded: this project's profile.
use Rattle.std.specs.Prelude.{ℕ, ◌+◌, List, [], ◌∷◌, length, Bool, if◌then◌else◌, is_some, Option, None, Some, nat_lt, nat_le}
use Rattle.std.specs.Option.{option_or}
use Rattle.std.specs.List.{list_any}
use Rattle.std.specs.Str.{bytes_eq}
use Rattle.cap_grants.specs.declared.grant.Grant.{Grant}
use Rattle.cap_grants.specs.declared.grant.Grant.TheVariants.{Allow, Profile}
use Rattle.grant_core.specs.Flat.{Table, flat}
use Rattle.grant_core.specs.declared.fault.ExpandFault.{ExpandFault}
use Rattle.grant_core.specs.declared.fault.ExpandFault.TheVariants.{UnknownProfile, DuplicateProfile, TagInProfile, TooManyProfiles, TooLarge}

-- whether the table has a profile of this name
abbrev pub has_profile : Table → List ℕ → Bool
has_profile table name = list_any (λ profile. bytes_eq name profile.0) table

-- a use of a profile that is not in the table
abbrev pub list_fault : Table → ℕ → Grant → Option ExpandFault
list_fault table number (Allow g) = None
list_fault table number (Profile used) = if has_profile table used.name then None else Some (UnknownProfile number)

-- in a body also an allow with a tag
abbrev pub body_fault : Table → ℕ → Grant → Option ExpandFault
body_fault table number (Allow g) = if is_some g.tag then Some (TagInProfile number) else None
body_fault table number (Profile used) = list_fault table number (Profile used)

-- the fault of the first grant that has one
abbrev pub first_fault : (ℕ → Grant → Option ExpandFault) → ℕ → List Grant → Option ExpandFault
first_fault fault number [] = None
first_fault fault number (g ∷ gs) = option_or (fault number g) (first_fault fault (number + 1) gs)

-- more than 256 grants are left
abbrev pub too_large : Table → List Grant → Option ExpandFault
too_large table grants = if nat_lt 256 (length (flat table grants)) then Some TooLarge else None

-- why a list is not expanded
abbrev pub expand_refusal : Table → List Grant → Option ExpandFault
expand_refusal table grants = option_or (first_fault (list_fault table) 1 grants) (too_large table grants)

-- why a profile is not added
abbrev pub add_refusal : Table → List ℕ → List Grant → Option ExpandFault
add_refusal table name body =
    if has_profile table name then Some DuplicateProfile
    else (if nat_le 32 (length table) then Some TooManyProfiles
    else option_or (first_fault (body_fault table) 1 body) (too_large table body))
