-- Statement: contracts of public calls use it.
-- Both sides of the condition of a grant that a logged request fails (this project's profile).
use Rattle.std.specs.Prelude.{ℕ, ◌-◌, List, [], ◌++◌, Bool, false, Option, None, Some, codes, decimal, not, slice_get, if◌then◌else◌}
use Rattle.std.specs.Option.{option_map_or}
use Rattle.cap_grants.specs.declared.grant.AllowGrant.{AllowGrant}
use Rattle.cap_grants.specs.declared.grant.NsMatch.{NsMatch}
use Rattle.cap_grants.specs.declared.grant.NsMatch.TheVariants.{Exact, Prefix}
use Rattle.ceph_text.specs.Printed.{printed_ceph}
use Rattle.grant_core.specs.Text.{printed_path}
use Rattle.network_core.specs.Address.{address_text}
use Rattle.network_core.specs.declared.network.Network.{Network}
use Rattle.network_core.specs.declared.network.Network.TheVariants.{Never, Range}
use Rattle.request_types.specs.Text.{condition_text}
use Rattle.request_types.specs.declared.request.ClassCall.{ClassCall}
use Rattle.request_types.specs.declared.request.Condition.{Condition}
use Rattle.request_types.specs.declared.request.Condition.TheVariants as failed
use Rattle.rights_core.specs.Rights.{NetworkGrant, is_live}
use Rattle.compare_text.specs.Words.{flag_words}
use Rattle.verdict_core.specs.Verdict.{first_failure}
use Rattle.log_text.specs.Decision.{tags_text}
use Rattle.verdict_text.specs.ShownName.{shown_name}
use Rattle.log_text.specs.declared.decided.Decided.{Decided}

-- ---- the condition

-- for no address at all
abbrev pub is_dead : Option Network → Bool
is_dead network = not (is_live network)

-- a request that fails nothing else may fail by its address
abbrev pub or_network : Option Network → Option Condition → Option Condition
or_network network (Some condition) = Some condition
or_network None None = None
or_network (Some network) None = Some failed.Network

abbrev pub failed_condition : NetworkGrant → Decided → Option Condition
failed_condition entry decided =
    if is_dead entry.network then Some failed.Network else or_network entry.network (first_failure false entry.grant decided.target decided.needs)

-- ---- what the request asks for

abbrev pub does : ClassCall → List ℕ
does call = flag_words call.class_reads (codes " that reads") ++ (flag_words call.class_writes (codes " that writes") ++ flag_words (not call.listed) (codes ", unlisted"))

abbrev pub call_words : ClassCall → List ℕ
call_words call = codes "class " ++ (shown_name call.class ++ (codes " " ++ (shown_name call.method ++ does call)))

-- the call with this number, counted from 1
abbrev pub call_at : List ClassCall → ℕ → List ℕ
call_at calls number = option_map_or call_words (slice_get calls (number - 1)) []

abbrev pub asked : Condition → Decided → List ℕ
asked failed.Expired decided = codes "a tick"
asked failed.Network decided = codes "an address that the log does not have"
asked failed.Pool decided = shown_name decided.target.pool
asked failed.Namespace decided = shown_name decided.target.namespace
asked failed.Tag decided = tags_text decided.target.tags
asked failed.Prefix decided = shown_name decided.target.object
asked failed.Read decided = codes "r"
asked failed.Write decided = codes "w"
asked (failed.Call number) decided = call_at decided.needs.calls number

-- ---- what the grant has

abbrev pub network_words : Option Network → List ℕ
network_words None = codes "every address"
network_words (Some Never) = codes "no address"
network_words (Some (Range address length)) = address_text address ++ (codes "/" ++ decimal length)

abbrev pub optional : Option (List ℕ) → List ℕ
optional None = []
optional (Some name) = shown_name name

abbrev pub namespaces : Option NsMatch → List ℕ
namespaces None = []
namespaces (Some (Exact name)) = shown_name name
namespaces (Some (Prefix front)) = shown_name front ++ codes "*"

-- the value of the condition, or the whole grant
abbrev pub held : Condition → Option Network → AllowGrant → List ℕ
held failed.Network network grant = network_words network
held failed.Pool network grant = optional grant.pool
held failed.Namespace network grant = namespaces grant.namespace
held failed.Prefix network grant = optional grant.prefix
held failed.Expired network grant = printed_ceph grant
held failed.Tag network grant = printed_ceph grant
held failed.Read network grant = printed_ceph grant
held failed.Write network grant = printed_ceph grant
held (failed.Call number) network grant = printed_ceph grant

-- ---- lines

abbrev pub failure_line : NetworkGrant → Condition → Decided → List ℕ
failure_line entry condition decided =
    (codes "  " ++ (printed_path entry.path ++ (codes " " ++ (condition_text condition ++ codes ": asks ")))) ++ (asked condition decided ++ (codes ", has " ++ (held condition entry.network entry.grant ++ codes "\n")))

abbrev pub line_of : NetworkGrant → Decided → Option Condition → List ℕ
line_of entry decided None = []
line_of entry decided (Some condition) = failure_line entry condition decided

-- the line of a grant of which the request fails a condition
abbrev pub entry_failure : NetworkGrant → Decided → List ℕ
entry_failure entry decided = line_of entry decided (failed_condition entry decided)
