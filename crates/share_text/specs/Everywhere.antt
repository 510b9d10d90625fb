-- Statement: contracts of public calls use it.
-- Whose grants reach every object of every pool, said by what the gate allows alone (this project's profile).
use Rattle.std.specs.Prelude.{ℕ, ◌≡◌, ◌≢◌, List, [], ◌∷◌, Bool, true, false, Some, None}
use Rattle.cap_grants.specs.declared.grant.Access.{Access}
use Rattle.cap_grants.specs.declared.grant.Access.TheVariants.{Flags}
use Rattle.cap_grants.specs.declared.grant.AllowGrant.{AllowGrant}
use Rattle.grant_core.specs.Flat.{Flat}
use Rattle.request_types.specs.Target.{Target}
use Rattle.share_core.specs.Sharing.{ArePossible, a_read, a_write}
use Rattle.verdict_core.specs.Verdict.{grants_allow}

-- every object of every pool that can be may be read, and may be written: a listing is no object
abbrev pub ReadsAndWritesAll : Flat → Type 0
ReadsAndWritesAll grants =
    (target : Target) → ArePossible target.tags → target.object ≢ [] → (grants_allow grants target a_read ≡ true) × (grants_allow grants target a_write ≡ true)

-- a grant at every object of every pool, which reads or writes and covers no calls
abbrev pub everywhere : Bool → Bool → AllowGrant
everywhere reads writes = record {
  access = Flags (record { read = reads; write = writes; class_read = false; class_write = false });
  pool = None;
  namespace = None;
  prefix = Some [];
  tag = None;
}

-- one that reads, and one that writes
abbrev pub every_object : Flat
every_object = (1 ∷ [], everywhere true false) ∷ (2 ∷ [], everywhere false true) ∷ []
