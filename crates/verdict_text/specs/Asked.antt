-- Statement: contracts of public calls use it.
-- What is asked of a capability text, and when its calls are refused (this project's profile).
use Rattle.std.specs.Prelude.{ℕ, ◌+◌, ◌++◌, ◌||◌, Bool, List, [], ◌∷◌, Option, Some, None, if◌then◌else◌, length, nat_lt}
use Rattle.object_core.specs.Needs.{needs_of, needs_fault}
use Rattle.object_core.specs.declared.needs.NeedsFault.{NeedsFault}
use Rattle.object_core.specs.declared.needs.NeedsFault.TheVariants.{TooManyOps}
use Rattle.object_core.specs.declared.op.Op.{Op}
use Rattle.network_core.specs.declared.address.Address.{Address}
use Rattle.request_types.specs.Target.{Target}
use Rattle.request_types.specs.declared.request.ClassCall.{ClassCall}
use Rattle.request_types.specs.declared.request.Needs.{Needs}

-- what a verdict is asked of, beside the capability text
pub record Asked : Type 0 where
  pub target : Target
  pub reads : Bool
  pub writes : Bool
  pub calls : List Op  -- of methods of the class registry
  pub stated : List ClassCall  -- behind these, with what they say of their methods themselves
  pub tick : ℕ  -- when the request comes
  pub from : Option Address  -- the address that it comes from, if one is given

-- what the calls ask for, and the two flags
abbrev pub asked_needs : Asked → Needs
asked_needs a =
    let n : Needs = needs_of a.calls in
    record { reads = a.reads || n.reads; writes = a.writes || n.writes; calls = n.calls ++ a.stated }

-- a request has at most 16 calls
abbrev pub are_too_many : List Op → List ClassCall → Bool
are_too_many calls stated = nat_lt 16 (length calls + length stated)

-- why calls of the registry's methods are refused, where there are any
abbrev pub named_fault : List Op → Option NeedsFault
named_fault [] = None
named_fault (op ∷ ops) = needs_fault (op ∷ ops)

-- why the calls of a request are refused
abbrev pub calls_fault : Asked → Option NeedsFault
calls_fault a = if are_too_many a.calls a.stated then Some TooManyOps else named_fault a.calls
