-- Statement: contracts of public calls use it.
-- What a C program passes, as the access gate sees it, and what it gets. Source: this project's profile.
use Rattle.std.specs.Prelude.{◌≡◌, ℕ, List, length, map, Bool, Option, None, Some, Ok, ◌==◌, if◌then◌else◌}
use Rattle.cap_grants.specs.declared.grant.Grant.{Grant}
use Rattle.cap_text.specs.Grammar.{Spells}
use Rattle.cap_text.specs.Printed.{printed}
use Rattle.common_types.specs.declared.tags.AppTags.{AppTags}
use Rattle.grant_core.specs.BuiltIn.{built_in}
use Rattle.grant_core.specs.Flat.{flat}
use Rattle.request_types.specs.Target.{Target}
use Rattle.request_types.specs.declared.request.ClassCall.{ClassCall}
use Rattle.request_types.specs.declared.request.Needs.{Needs}
use Rattle.verdict_text.specs.Reading.{IsCephReading, rights_of}
use Rattle.verdict_text.specs.declared.reading.Rules.{Rules}
use Rattle.verdict_text.specs.declared.reading.Rules.TheVariants.{Project, Ceph}
use Rattle.gate_calls.specs.Caps.{Caps}
use Rattle.gate_calls.specs.declared.request.SigCall.{SigCall}
use Rattle.gate_calls.specs.declared.request.SigPair.{SigPair}
use Rattle.gate_calls.specs.declared.request.SigApplication.{SigApplication}
use Rattle.gate_calls.specs.declared.request.SigRequest.{SigRequest}

-- until when a ticket holds
abbrev pub until_of : Bool → ℕ → Option ℕ
until_of ends tick = if ends then Some tick else None

-- the rules that a number stands for
abbrev pub rules_of : ℕ → Option Rules
rules_of number = if number == 0 then Some Project else (if number == 1 then Some Ceph else None)

-- the number stands for rules, and they have this property
abbrev pub ByRules : (Rules → Type 0) → Option Rules → Type 0
ByRules P None = ⊥
ByRules P (Some rules) = P rules

-- the handle holds a ticket, and it has this property
abbrev pub Holds : (Caps → Type 0) → Option Caps → Type 0
Holds P None = ⊥
Holds P (Some caps) = P caps

-- the ticket of this text by these rules, until then
abbrev pub IsTicketOf : List ℕ → Option ℕ → Rules → Caps → Type 0
IsTicketOf text until Project caps = (grants : List Grant) × Spells text grants × (caps.text ≡ printed grants) × (caps.rights ≡ rights_of (flat built_in grants) until)
IsTicketOf text until Ceph caps = IsCephReading text until (Ok caps.rights) × (caps.text ≡ text)

abbrev pub call_of : SigCall → ClassCall
call_of c = record { class = c.class.now; method = c.method.now; class_reads = c.reads; class_writes = c.writes; listed = c.listed }

abbrev pub pair_of : SigPair → List ℕ × List ℕ
pair_of p = (p.key.now, p.value.now)

abbrev pub tags_of : SigApplication → AppTags
tags_of a = record { application = a.name.now; pairs = map pair_of a.pairs.now }

abbrev pub target_of : SigRequest → List SigApplication → Target
target_of r applications = record { pool = r.pool.now; tags = map tags_of applications; namespace = r.namespace.now; object = r.object.now }

abbrev pub needs_of : SigRequest → List SigCall → Needs
needs_of r calls = record { reads = r.reads; writes = r.writes; calls = map call_of calls }

-- the number of grants, profiles expanded; 0 for an empty handle
abbrev pub grants_in : Option Caps → ℕ
grants_in None = 0
grants_in (Some caps) = length caps.rights.grants
