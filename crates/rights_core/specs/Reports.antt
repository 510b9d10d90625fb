-- Statement: contracts of public calls use it.
-- Why rights deny a request: for each grant the first condition that the request fails.
-- Source: this project. Ceph looks at a grant's network before all else of the grant.
use Rattle.std.specs.Prelude.{ℕ, List, Bool, false, Option, None, Some, if◌then◌else◌}
use Rattle.std.specs.Option.{option_map}
use Rattle.std.specs.List.{filter_map}
use Rattle.network_core.specs.declared.address.Address.{Address}
use Rattle.network_core.specs.declared.network.Network.{Network}
use Rattle.request_types.specs.declared.request.Condition.{Condition}
use Rattle.request_types.specs.declared.request.Condition.TheVariants as why
use Rattle.request_types.specs.declared.request.Needs.{Needs}
use Rattle.request_types.specs.Target.{Target}
use Rattle.verdict_core.specs.Verdict.{first_failure, is_expired}
use Rattle.rights_core.specs.Rights.{NetworkGrant, Rights, is_for, is_live}

-- whether a grant with this network, or with none, is for the address, or for some address if none is given
abbrev pub is_reached : Option Network → Option Address → Bool
is_reached network None = is_live network
is_reached network (Some address) = is_for network address

-- the first condition of a grant that the request fails: the time, the network, and then the conditions of the grant
abbrev pub failure : Bool → Target → Needs → Option Address → NetworkGrant → Option Condition
failure expired target needs from entry =
    if expired then Some why.Expired
    else (if is_reached entry.network from then first_failure false entry.grant target needs else Some why.Network)

abbrev pub line : Bool → Target → Needs → Option Address → NetworkGrant → Option (List ℕ × Condition)
line expired target needs from entry = option_map (λ condition. (entry.path, condition)) (failure expired target needs from entry)

-- the path of each grant, and the condition
abbrev pub report_from : Rights → Target → Needs → ℕ → Option Address → List (List ℕ × Condition)
report_from rights target needs tick from = filter_map (line (is_expired rights.until tick) target needs from) rights.grants
