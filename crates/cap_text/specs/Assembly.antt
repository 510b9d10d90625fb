-- Statement: contracts of public calls use it.
-- How a grant is put together: the clauses that may still come, what was read, and the grant that it makes.
use Rattle.std.specs.Prelude.{ℕ, Bool, true, false, List, [], ◌∷◌, ◌++◌, Option, Some, None, Result, Ok, Err}
use Rattle.cap_grants.specs.declared.grant.Access.{Access}
use Rattle.cap_grants.specs.declared.grant.NsMatch.{NsMatch}
use Rattle.cap_grants.specs.declared.grant.Tag.{Tag}
use Rattle.cap_grants.specs.declared.grant.AllowGrant.{AllowGrant}
use Rattle.cap_grants.specs.declared.grant.Grant.{Grant}
use Rattle.cap_grants.specs.declared.grant.Grant.TheVariants.{Allow, Profile}
use Rattle.cap_grants.specs.declared.fault_kind.FaultKind.{FaultKind}
use Rattle.cap_grants.specs.declared.fault_kind.FaultKind.TheVariants.{BadAccess}
use Rattle.cap_text.specs.declared.stage.ClauseSet.{ClauseSet}
use Rattle.cap_text.specs.Draft.{Head, Draft}
use Rattle.cap_text.specs.Draft as heads

-- ---- clauses

abbrev pub no_more : ClauseSet
no_more = record { pool = false; namespace = false; prefix = false; tag = false }

abbrev pub after_pool : ClauseSet → ClauseSet
after_pool may = record { pool = false; namespace = may.namespace; prefix = may.prefix; tag = false }

abbrev pub after_namespace : ClauseSet → ClauseSet
after_namespace may = record { pool = false; namespace = false; prefix = may.prefix; tag = may.tag }

abbrev pub draft : Head → Option (List ℕ) → Option NsMatch → Option (List ℕ) → Option Tag → Draft
draft h pool namespace prefix tag = record { head = h; pool = pool; namespace = namespace; prefix = prefix; tag = tag }

abbrev pub fresh : Head → Draft
fresh h = draft h None None None None

-- ---- accesses

abbrev pub with_access : Draft → Access → Draft
with_access d a = record d { head = heads.Allow (Some a) }

abbrev pub kept_if : Bool → ClauseSet → ClauseSet
kept_if true may = may
kept_if false may = no_more

abbrev pub after_access : ClauseSet → ClauseSet
after_access may = kept_if may.pool may

abbrev pub wants_access : Head → Bool
wants_access (heads.Allow None) = true
wants_access h = false

-- ---- grants

abbrev pub made : Draft → Access → AllowGrant
made d a = record { access = a; pool = d.pool; namespace = d.namespace; prefix = d.prefix; tag = d.tag }

abbrev pub grant_with : Head → Draft → Result Grant FaultKind
grant_with (heads.Allow None) d = Err BadAccess
grant_with (heads.Allow (Some a)) d = Ok (Allow (made d a))
grant_with (heads.Profile n) d = Ok (Profile (record { name = n; pool = d.pool; namespace = d.namespace }))

abbrev pub grant_of : Draft → Result Grant FaultKind
grant_of d = grant_with d.head d

-- ---- lists

abbrev pub ended : List Grant → Result Grant FaultKind → Result (List Grant) FaultKind
ended done (Ok g) = Ok (done ++ g ∷ [])
ended done (Err k) = Err k
