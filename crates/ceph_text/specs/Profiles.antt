-- Statement: contracts of public calls use it.
-- What Ceph 16.2.15 makes of a profile, as its own expansion prints it.
use Rattle.std.specs.Prelude.{ℕ, ◌+◌, Bool, not, ◌||◌, true, false, List, [], ◌∷◌, ◌++◌, length, map, codes, Option, Some, None, if◌then◌else◌}
use Rattle.std.specs.Str.{bytes_eq}
use Rattle.cap_grants.specs.declared.grant.Access.{Access}
use Rattle.cap_grants.specs.declared.grant.Access.TheVariants.{Flags, Class}
use Rattle.cap_grants.specs.declared.grant.AllowGrant.{AllowGrant}
use Rattle.cap_grants.specs.declared.grant.Grant.{Grant}
use Rattle.cap_grants.specs.declared.grant.Grant.TheVariants.{Allow, Profile}
use Rattle.cap_grants.specs.declared.grant.NsMatch.{NsMatch}
use Rattle.cap_grants.specs.declared.grant.NsMatch.TheVariants.{Exact}
use Rattle.cap_grants.specs.declared.grant.ProfileUse.{ProfileUse}
use Rattle.ceph_text.specs.declared.grant.CephGrant.{CephGrant}
use Rattle.ceph_text.specs.declared.row.Scope.{Scope}
use Rattle.ceph_text.specs.declared.row.Scope.TheVariants.{Everywhere, EmptyNamespace, WhereUsed}
use Rattle.ceph_text.specs.declared.entry.CephEntry.{CephEntry}

-- a grant of a profile
pub record Row : Type 0 where
  pub access : Access
  pub scope : Scope
  pub prefix : Option (List ℕ)

abbrev pub row : Access → Scope → Option (List ℕ) → Row
row a s p = record { access = a; scope = s; prefix = p }

abbrev pub flags : Bool → Bool → Bool → Bool → Access
flags r w cr cw = Flags (record { read = r; write = w; class_read = cr; class_write = cw })

-- class rbd, with this method
abbrev pub rbd_call : List ℕ → Access
rbd_call method = Class (codes "rbd") (Some method)

abbrev pub rbd : List Row
rbd =
    row (flags true false false false) Everywhere (Some (codes "rbd_info"))
    ∷ row (flags false false true false) Everywhere (Some (codes "rbd_children"))
    ∷ row (flags false false true false) Everywhere (Some (codes "rbd_mirroring"))
    ∷ row (rbd_call (codes "metadata_list")) EmptyNamespace (Some (codes "rbd_info"))
    ∷ row (flags true true true true) WhereUsed None ∷ []

abbrev pub rbd_read_only : List Row
rbd_read_only =
    row (rbd_call (codes "metadata_list")) EmptyNamespace (Some (codes "rbd_info"))
    ∷ row (flags true false true false) WhereUsed None
    ∷ row (rbd_call (codes "child_attach")) WhereUsed (Some (codes "rbd_header."))
    ∷ row (rbd_call (codes "child_detach")) WhereUsed (Some (codes "rbd_header.")) ∷ []

abbrev pub read_only : List Row
read_only = row (flags true false false false) WhereUsed None ∷ []

abbrev pub read_write : List Row
read_write = row (flags true true false false) WhereUsed None ∷ []

-- every other name grants nothing
abbrev pub rows : List ℕ → List Row
rows name =
    if bytes_eq name (codes "rbd") then rbd
    else (if bytes_eq name (codes "rbd-read-only") then rbd_read_only
    else (if bytes_eq name (codes "read-only") then read_only
    else (if bytes_eq name (codes "read-write") then read_write else [])))

-- what is everywhere takes nothing from the use
abbrev pub pool_in : Scope → ProfileUse → Option (List ℕ)
pool_in Everywhere used = None
pool_in EmptyNamespace used = used.pool
pool_in WhereUsed used = used.pool

abbrev pub namespace_in : Scope → ProfileUse → Option NsMatch
namespace_in Everywhere used = None
namespace_in EmptyNamespace used = Some (Exact [])
namespace_in WhereUsed used = used.namespace

-- a profile's grant where it is used
abbrev pub filled : ProfileUse → Row → AllowGrant
filled used r = record { access = r.access; pool = pool_in r.scope used; namespace = namespace_in r.scope used; prefix = r.prefix; tag = None }

-- a profile's grants, numbered from part on under the number of its use
abbrev pub entries_of_rows : ℕ → Option (List ℕ) → ProfileUse → ℕ → List Row → List CephEntry
entries_of_rows number network used part [] = []
entries_of_rows number network used part (r ∷ rs) =
    record { path = number ∷ part ∷ []; network = network; grant = filled used r } ∷ entries_of_rows number network used (part + 1) rs

-- an allow is itself
abbrev pub entries_of : ℕ → Option (List ℕ) → Grant → List CephEntry
entries_of number network (Allow a) = record { path = number ∷ []; network = network; grant = a } ∷ []
entries_of number network (Profile used) = entries_of_rows number network used 1 (rows used.name)

abbrev pub flat_from : ℕ → List CephGrant → List CephEntry
flat_from number [] = []
flat_from number (g ∷ gs) = entries_of number g.network g.grant ++ flat_from (number + 1) gs

-- what a list expands to: grants with their paths and networks
abbrev pub ceph_flat : List CephGrant → List CephEntry
ceph_flat gs = flat_from 1 gs

abbrev pub is_known : List ℕ → Bool
is_known name = bytes_eq name (codes "rbd") || (bytes_eq name (codes "rbd-read-only") || (bytes_eq name (codes "read-only") || bytes_eq name (codes "read-write")))

abbrev pub uses_unknown : Grant → Bool
uses_unknown (Allow a) = false
uses_unknown (Profile used) = not (is_known used.name)

-- the numbers of the grants that use a profile of another name
abbrev pub unknown_from : ℕ → List CephGrant → List ℕ
unknown_from number [] = []
unknown_from number (g ∷ gs) = if uses_unknown g.grant then number ∷ unknown_from (number + 1) gs else unknown_from (number + 1) gs
