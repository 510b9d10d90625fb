-- A use that gives nothing fills nothing in.
use Rattle.std.proofs.Common.{◌≡◌, ℕ, List, [], ◌∷◌, Option, None, Some, map, refl}
use Rattle.cap_grants.specs.declared.grant.Access.{Access}
use Rattle.cap_grants.specs.declared.grant.AllowGrant.{AllowGrant}
use Rattle.cap_grants.specs.declared.grant.Grant.{Grant}
use Rattle.cap_grants.specs.declared.grant.Grant.TheVariants.{Allow, Profile}
use Rattle.cap_grants.specs.declared.grant.NsMatch.{NsMatch}
use Rattle.cap_grants.specs.declared.grant.ProfileUse.{ProfileUse}
use Rattle.cap_grants.specs.declared.grant.Tag.{Tag}
use Rattle.grant_core.specs.Flat.{filled, filled_allow, filled_use}

abbrev pub nowhere : List ℕ → ProfileUse
nowhere name = record { name = name; pool = None; namespace = None }

same_allow : (name : List ℕ) (access : Access) (pool : Option (List ℕ)) (namespace : Option NsMatch) (prefix : Option (List ℕ)) (tag : Option Tag)
    → let g : AllowGrant = record { access = access; pool = pool; namespace = namespace; prefix = prefix; tag = tag } in filled_allow (nowhere name) g ≡ g
same_allow name access (Some pool) namespace prefix tag = refl
same_allow name access None None prefix tag = refl
same_allow name access None (Some namespace) prefix tag = refl

same_use : (name inner : List ℕ) (pool : Option (List ℕ)) (namespace : Option NsMatch)
    → let used : ProfileUse = record { name = inner; pool = pool; namespace = namespace } in filled_use (nowhere name) used ≡ used
same_use name inner (Some pool) namespace = refl
same_use name inner None None = refl
same_use name inner None (Some namespace) = refl

pub same_list : (name : List ℕ) (gs : List Grant) → map (filled (nowhere name)) gs ≡ gs
same_list name [] = refl
same_list name (Allow g ∷ gs) = λ i. Allow (same_allow name g.access g.pool g.namespace g.prefix g.tag i) ∷ same_list name gs i
same_list name (Profile used ∷ gs) = λ i. Profile (same_use name used.name used.pool used.namespace i) ∷ same_list name gs i
