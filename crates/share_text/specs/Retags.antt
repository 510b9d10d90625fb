-- Statement: contracts of public calls use it.
-- What is printed of tenants that share more once a pool is tagged anew: its tags change, and its objects stay (this project's
-- profile). Tags can be set and removed at any time: the Ceph manual's Pools chapter, "Associating a pool with an application".
-- Every line ends with byte 10.
use Rattle.std.specs.Prelude.{ℕ, ◌≡◌, ◌↔◌, List, [], ◌++◌, map, Bool, true, false, Option, Some, None, codes}
use Rattle.cap_grants.specs.declared.grant.AllowGrant.{AllowGrant}
use Rattle.grant_core.specs.Flat.{Flat}
use Rattle.request_types.specs.Target.{Target}
use Rattle.rights_core.specs.Rights.{NetworkGrant, live_grants}
use Rattle.verdict_text.specs.Documents.{list_by}
use Rattle.share_text.specs.declared.holder.Holder.{Holder}
use Rattle.verdict_text.specs.declared.format.Format.{Format}
use Rattle.verdict_text.specs.declared.format.Format.TheVariants.{Text, Json}
use Rattle.share_core.specs.Sharing.{ArePossible, May, Share}
use Rattle.share_core.specs.declared.pools.Pool.{Pool}
use Rattle.share_core.specs.declared.touches.Touch.{Touch}
use Rattle.share_text.specs.Kinds.{IsSharedWithin}
use Rattle.share_text.specs.Tenants.{AreTenants, InTurn, IsStrongest, pair_by, pair_line}
use Rattle.share_text.specs.declared.kind.Kind.{Kind}
use Rattle.share_text.specs.declared.tenants.Tenant.{Tenant}

-- a grant for pools of any tags
abbrev pub untagged_grant : AllowGrant → AllowGrant
untagged_grant grant = record { access = grant.access; pool = grant.pool; namespace = grant.namespace; prefix = grant.prefix; tag = None }

abbrev pub untagged_entry : List ℕ × AllowGrant → List ℕ × AllowGrant
untagged_entry entry = (entry.0, untagged_grant entry.1)

abbrev pub untagged : Flat → Flat
untagged grants = map untagged_entry grants

-- Two targets of one pool, namespace and object, whose tags may differ: the ones may touch the first one as the one does, and
-- the others the second one as the other does.
pub record IsRetagged (ones : Flat) (one : Touch) (others : Flat) (other : Touch) (target later : Target) : Type 0 where
  pub pool : later.pool ≡ target.pool
  pub namespace : later.namespace ≡ target.namespace
  pub object : later.object ≡ target.object
  pub possible : ArePossible target.tags
  pub later_possible : ArePossible later.tags
  pub may : May ones target one
  pub others_may : May others later other

-- grants for pools of any tags share something exactly where there are two such targets of the grants
abbrev pub RetagsAreOfTwoTargets : Type 0
RetagsAreOfTwoTargets =
    (ones others : Flat) (one other : Touch)
    → Share (untagged ones) one (untagged others) other ↔ ((target later : Target) × IsRetagged ones one others other target later)

-- a line stands behind the word; an item of a document is as one of those who share
abbrev pub retag_by : Format → Kind → List ℕ → List ℕ → Target → List ℕ
retag_by Text kind one other target = codes "retag " ++ pair_line kind one other target
retag_by Json kind one other target = pair_by Json kind one other target

-- what is reported of two by a kind: nothing where no kind is given, else a target that they share by this kind by their grants
-- for pools of any tags
abbrev pub IsRetagToldBy : Option (List Pool) → Format → Option Kind → Flat → Flat → List ℕ → List ℕ → List ℕ → Bool → Type 0
IsRetagToldBy pools format None ones others one other text some = (text ≡ []) × (some ≡ false)
IsRetagToldBy pools format (Some kind) ones others one other text some =
    (target : Target) × IsSharedWithin pools kind (untagged ones) (untagged others) target × (text ≡ retag_by format kind one other target) × (some ≡ true)

-- nothing is reported of two that share already, where one writes
abbrev pub IsRetagToldAfter : Option Kind → Option (List Pool) → Format → Flat → Flat → List ℕ → List ℕ → List ℕ → Bool → Type 0
IsRetagToldAfter (Some kind) pools format ones others one other text some = (text ≡ []) × (some ≡ false)
IsRetagToldAfter None pools format ones others one other text some =
    (found : Option Kind) × IsStrongest pools false (untagged ones) (untagged others) found × IsRetagToldBy pools format found ones others one other text some

-- what is reported of two with these grants and names, and whether that is a line
abbrev pub IsRetagOf : Option (List Pool) → Format → Flat → Flat → List ℕ → List ℕ → List ℕ → Bool → Type 0
IsRetagOf pools format ones others one other text some =
    (present : Option Kind) × IsStrongest pools false ones others present × IsRetagToldAfter present pools format ones others one other text some

abbrev pub IsRetagTold : Option (List Pool) → Format → Tenant → Tenant → List ℕ → Bool → Type 0
IsRetagTold pools format one other text some = IsRetagOf pools format one.ticket.now.grants other.ticket.now.grants one.name.now other.name.now text some

-- of a tenant with each of those behind it
abbrev pub IsRetagToldWith : Option (List Pool) → Format → Tenant → List Tenant → List ℕ → Bool → Type 0
IsRetagToldWith pools format one others text some = InTurn (λ other behind. IsRetagTold pools format one other) others text some

-- what is printed of some entities, and whether it has a line: each pair once, in the file's order; where pools are given, of
-- their targets alone
abbrev pub AreRetagsTold : Option (List Pool) → Format → List Holder → List ℕ → Bool → Type 0
AreRetagsTold pools format entities text some =
    (tenants : List Tenant) × AreTenants entities tenants × (told : List ℕ) × InTurn (IsRetagToldWith pools format) tenants told some
    × (text ≡ list_by (codes "retags") format told)

-- what is printed of two texts, under the names `first` and `second`
abbrev pub IsRetagOfTexts : Format → List NetworkGrant → List NetworkGrant → List ℕ → Bool → Type 0
IsRetagOfTexts format ones others text some =
    (told : List ℕ) × IsRetagOf None format (live_grants ones) (live_grants others) (codes "first") (codes "second") told some
    × (text ≡ list_by (codes "retags") format told)
