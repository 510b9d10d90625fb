-- Statement: contracts of public calls use it.
-- What an entity reaches of a pool, said by what is allowed alone.
-- Source: this project's profile. Names of namespaces and objects are any.
use Rattle.std.specs.Prelude.{◌≡◌, ◌≢◌, ℕ, List, [], ◌∷◌, true, false, ◌||◌}
use Rattle.compare_core.specs.Widening.{AreNeeded}
use Rattle.compare_core.specs.declared.registry.Registry.TheVariants.{Every}
use Rattle.network_core.specs.declared.address.Address.{Address}
use Rattle.network_core.specs.Address.{IsAddress}
use Rattle.request_types.specs.Target.{Target}
use Rattle.request_types.specs.declared.request.ClassCall.{ClassCall}
use Rattle.request_types.specs.declared.request.Needs.{Needs}
use Rattle.rights_core.specs.Rights.{Rights}
use Rattle.rights_core.specs.Verdicts.{allowed_at}
use Rattle.share_core.specs.Sharing.{a_read, a_write, a_call}
use Rattle.share_core.specs.declared.pools.Pool.{Pool}
use Rattle.audit_core.specs.declared.cell.Cell.{Cell}
use Rattle.audit_core.specs.declared.cell.Extent.{Extent}
use Rattle.audit_core.specs.declared.cell.Extent.TheVariants.{Nothing, Part, Whole}
use Rattle.audit_core.specs.declared.cell.Letter.{Letter}
use Rattle.audit_core.specs.declared.cell.Letter.TheVariants.{Read, Write, Listing, Call, Any}

-- a target of the pool, with exactly its tags
abbrev pub IsInPool : Pool → Target → Type 0
IsInPool pool target = (target.pool ≡ pool.name) × (target.tags ≡ pool.tags)

-- a call of a class on the default list, whose method reads, writes or both
abbrev pub IsListedCall : ClassCall → Type 0
IsListedCall call = (call.listed ≡ true) × ((call.class_reads || call.class_writes) ≡ true)

-- A listing has the empty name of an object, and does nothing but read.
abbrev pub IsPlain : Target → Needs → Type 0
IsPlain target needs = target.object ≡ [] → (needs.writes ≡ false) × (needs.calls ≡ [])

-- the requests of a letter: one read, write or call of an object, a listing, or any request, whatever its calls
abbrev pub IsOf : Letter → Target → Needs → Type 0
IsOf Read target needs = (target.object ≢ []) × (needs ≡ a_read)
IsOf Write target needs = (target.object ≢ []) × (needs ≡ a_write)
IsOf Listing target needs = (target.object ≡ []) × (needs ≡ a_read)
IsOf Call target needs = (target.object ≢ []) × ((call : ClassCall) × IsListedCall call × (needs ≡ a_call call))
IsOf Any target needs = IsPlain target needs × AreNeeded Every needs

-- some request of the letter is allowed from some address
abbrev pub SomeIsAllowed : Rights → ℕ → Pool → Letter → Type 0
SomeIsAllowed rights tick pool letter =
    (target : Target) × (needs : Needs) × (a : Address)
    × IsInPool pool target × IsOf letter target needs × IsAddress a × (allowed_at rights target needs tick a ≡ true)

-- every request of the letter is allowed from every address
abbrev pub EveryIsAllowed : Rights → ℕ → Pool → Letter → Type 0
EveryIsAllowed rights tick pool letter =
    (target : Target) (needs : Needs) (a : Address) → IsInPool pool target → IsOf letter target needs → IsAddress a → allowed_at rights target needs tick a ≡ true

-- none, some but not every one, or every one
abbrev pub IsExtent : Rights → ℕ → Pool → Letter → Extent → Type 0
IsExtent rights tick pool letter Nothing = ¬ SomeIsAllowed rights tick pool letter
IsExtent rights tick pool letter Part = SomeIsAllowed rights tick pool letter × ¬ EveryIsAllowed rights tick pool letter
IsExtent rights tick pool letter Whole = SomeIsAllowed rights tick pool letter × EveryIsAllowed rights tick pool letter

-- what rights reach of a pool, letter by letter
pub record IsCell (rights : Rights) (tick : ℕ) (pool : Pool) (cell : Cell) : Type 0 where
  pub read : IsExtent rights tick pool Read cell.read
  pub write : IsExtent rights tick pool Write cell.write
  pub list : IsExtent rights tick pool Listing cell.list
  pub call : IsExtent rights tick pool Call cell.call
  pub any : IsExtent rights tick pool Any cell.any

-- a cell for each pool, in order
abbrev pub AreCells : Rights → ℕ → List Pool → List Cell → Type 0
AreCells rights tick [] cells = cells ≡ []
AreCells rights tick (pool ∷ pools) [] = ⊥
AreCells rights tick (pool ∷ pools) (cell ∷ cells) = IsCell rights tick pool cell × AreCells rights tick pools cells
