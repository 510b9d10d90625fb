-- Statement: contracts of public calls use it.
-- The profiles that every table begins with. The names are those of Ceph User Management; what they grant is this project's profile.
use Rattle.std.specs.Prelude.{List, [], ◌∷◌, Bool, true, false, None, codes}
use Rattle.cap_grants.specs.declared.grant.Access.TheVariants.{Flags}
use Rattle.cap_grants.specs.declared.grant.Grant.{Grant}
use Rattle.cap_grants.specs.declared.grant.Grant.TheVariants.{Allow, Profile}
use Rattle.grant_core.specs.Flat.{Table}

-- an allow with these flags, everywhere
abbrev pub allow_flags : Bool → Bool → Bool → Bool → Grant
allow_flags read write class_read class_write =
    Allow (record {
      access = Flags (record { read = read; write = write; class_read = class_read; class_write = class_write });
      pool = None;
      namespace = None;
      prefix = None;
      tag = None;
    })

-- profile rbd-read-only, allow rwx
abbrev pub rbd_body : List Grant
rbd_body = Profile (record { name = codes "rbd-read-only"; pool = None; namespace = None }) ∷ allow_flags true true true true ∷ []

-- allow r; allow rw; allow r class-read; and the body of rbd
abbrev pub built_in : Table
built_in =
    (codes "read-only", allow_flags true false false false ∷ [])
    ∷ (codes "read-write", allow_flags true true false false ∷ [])
    ∷ (codes "rbd-read-only", allow_flags true false true false ∷ [])
    ∷ (codes "rbd", rbd_body) ∷ []
