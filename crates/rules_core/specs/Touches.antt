-- Refinement: only contracts inside the crate use it.
-- Requests that decide whether two lists of grants allow a common one: to read, to write, or one call.
use Rattle.std.specs.Prelude.{ℕ, List, [], ◌∷◌, ◌++◌, Bool, true, false, Option, None, Some, codes, not}
use Rattle.std.specs.List.{flat_map}
use Rattle.cap_grants.specs.declared.grant.Access.{Access}
use Rattle.cap_grants.specs.declared.grant.Access.TheVariants.{All, Flags, Class}
use Rattle.grant_core.specs.Flat.{Flat}
use Rattle.request_types.specs.Target.{Target}
use Rattle.request_types.specs.declared.request.ClassCall.{ClassCall}
use Rattle.request_types.specs.declared.request.Needs.{Needs}
use Rattle.share_core.specs.Sharing.{May, a_call, a_read, a_write}
use Rattle.share_core.specs.declared.pools.Pool.{Pool}
use Rattle.share_core.specs.declared.touches.Touch.{Touch}
use Rattle.share_core.specs.declared.touches.Touch.TheVariants.{Read, Write, Call, AnyRead, AnyWrite}
use Rattle.rules_core.specs.Demands.{IsAt}

-- a call of a class on the default list, which writes or else reads
abbrev pub call_that : Bool → List ℕ → List ℕ → ClassCall
call_that writes class method = record { class = class; method = method; class_reads = not writes; class_writes = writes; listed = true }

-- a name of its own, or some name
abbrev pub or_a : Option (List ℕ) → List ℕ
or_a None = codes "a"
or_a (Some name) = name

-- the calls by the names of an access
abbrev pub class_touches : Access → List Touch
class_touches All = []
class_touches (Flags flags) = []
class_touches (Class class method) = Call (call_that false class (or_a method)) ∷ Call (call_that true class (or_a method)) ∷ []

abbrev pub touches_of : Flat → List Touch
touches_of grants = flat_map (λ entry. class_touches entry.1.access) grants

abbrev pub plain_touches : List Touch
plain_touches = Read ∷ Write ∷ Call (call_that false (codes "a") (codes "a")) ∷ Call (call_that true (codes "a") (codes "a")) ∷ []

abbrev pub touches : Flat → Flat → List Touch
touches ones others = plain_touches ++ (touches_of ones ++ touches_of others)

-- to write, or else to read
abbrev pub plain_needs : Bool → Needs
plain_needs false = a_read
plain_needs true = a_write

-- the request that is this touch and no more
abbrev pub needs_of : Touch → Needs
needs_of Read = a_read
needs_of Write = a_write
needs_of (Call call) = a_call call
needs_of AnyRead = a_read
needs_of AnyWrite = a_write

-- the target counts, and each list allows its touch there
abbrev pub Meets : Option (List Pool) → Flat → Touch → Flat → Touch → Target → Type 0
Meets pools ones one others other target = IsAt pools target × May ones target one × May others target other
