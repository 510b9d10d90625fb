-- Statement: contracts of public calls use it.
-- The answer to a request. Source: this project's profile; verdicts at an address and over all addresses are those of `rights_core`.
use Rattle.std.specs.Prelude.{◌≡◌, ◌≢◌, ◌⊎◌, ℕ, List, [], ◌∷◌, ◌++◌, length, Bool, true, false, Option, None, Some, Result, Ok, Err, IfOk, codes, string_bytes, if◌then◌else◌}
use Rattle.network_core.specs.Address.{IsAddressText, address_text}
use Rattle.network_core.specs.declared.address.Address.{Address}
use Rattle.request_types.specs.Target.{Target}
use Rattle.request_types.specs.Text.{report_text}
use Rattle.request_types.specs.declared.request.Needs.{Needs}
use Rattle.rights_core.specs.Reports.{report_from}
use Rattle.rights_core.specs.Rights.{Rights, has_networks}
use Rattle.rights_core.specs.Verdicts.{IsVerdict, allowed_at}
use Rattle.rights_core.specs.declared.judging.Everywhere.{Everywhere}
use Rattle.rights_core.specs.declared.judging.Everywhere.TheVariants as everywhere
use Rattle.gate_calls.specs.Border.{target_of, needs_of}
use Rattle.gate_calls.specs.Buffers.{filled}
use Rattle.gate_calls.specs.Caps.{Caps}
use Rattle.gate_calls.specs.Codes as numbers
use Rattle.gate_calls.specs.declared.answering.Answer.{Answer}
use Rattle.gate_calls.specs.declared.answering.Answer.TheVariants as answers
use Rattle.gate_calls.specs.declared.answering.Origin.{Origin}
use Rattle.gate_calls.specs.declared.answering.Origin.TheVariants.{Anywhere, At, Unreadable}
use Rattle.gate_calls.specs.declared.reporting.Reported.{Reported}
use Rattle.gate_calls.specs.declared.reporting.Reported.TheVariants as reported
use Rattle.gate_calls.specs.declared.request.SigApplication.{SigApplication}
use Rattle.gate_calls.specs.declared.request.SigCall.{SigCall}
use Rattle.gate_calls.specs.declared.request.SigRequest.{SigRequest}
use Rattle.gate_calls.specs.declared.request.Trouble.{Trouble}
use Rattle.gate_calls.specs.declared.request.Trouble.TheVariants.{NotUtf8, OutOfMemory}

-- what the text of an address writes: no text is any address
abbrev pub IsOrigin : List ℕ → Origin → Type 0
IsOrigin text Anywhere = text ≡ []
IsOrigin text (At address) = (text ≢ []) × IsAddressText text address
IsOrigin text Unreadable = (text ≢ []) × ((address : Address) → ¬ IsAddressText text address)

-- where a request comes from; the text of an address is not looked at where no grant has a network
abbrev pub IsOriginFor : Rights → List ℕ → Origin → Type 0
IsOriginFor rights text origin =
    ((has_networks rights.grants ≡ false) × (origin ≡ Anywhere)) ⊎ ((has_networks rights.grants ≡ true) × IsOrigin text origin)

abbrev pub verdict : Bool → Answer
verdict allowed = if allowed then answers.Allowed else answers.Denied

abbrev pub over_all : Everywhere → Answer
over_all everywhere.Allowed = answers.Allowed
over_all everywhere.Denied = answers.Denied
over_all (everywhere.Depends allowed denied) = answers.Depends

-- the decision rule at the address, or over all addresses
abbrev pub IsAnswerAt : Rights → Target → Needs → ℕ → Origin → Answer → Type 0
IsAnswerAt rights target needs tick Anywhere answer = (found : Everywhere) × IsVerdict rights target needs tick found × (answer ≡ over_all found)
IsAnswerAt rights target needs tick (At address) answer = answer ≡ verdict (allowed_at rights target needs tick address)
IsAnswerAt rights target needs tick Unreadable answer = answer ≡ answers.BadAddress

-- the answer of a ticket to a request with these calls, for a pool with these tags
abbrev pub IsAnswer : Caps → SigRequest → List SigApplication → List SigCall → Answer → Type 0
IsAnswer caps r applications calls answer =
    (origin : Origin) × IsOriginFor caps.rights r.from.now origin × IsAnswerAt caps.rights (target_of r applications) (needs_of r calls) r.tick origin answer

-- ---- in numbers

abbrev pub answer_code : Answer → ℕ
answer_code answers.Allowed = numbers.allow
answer_code answers.Denied = numbers.deny
answer_code answers.Depends = numbers.depends
answer_code answers.BadAddress = numbers.bad_address

abbrev pub trouble_code : Trouble → ℕ
trouble_code NotUtf8 = numbers.not_utf8
trouble_code OutOfMemory = numbers.no_memory

-- the number for an answer, or for the trouble in its place
abbrev pub code_of : Result Answer Trouble → ℕ
code_of (Ok answer) = answer_code answer
code_of (Err trouble) = trouble_code trouble

-- the number is that of the handle's answer to a request without calls, for a pool without tags
abbrev pub IsCode : Option Caps → SigRequest → ℕ → Type 0
IsCode None r code = code ≡ numbers.empty
IsCode (Some caps) r code = (answer : Answer) × IsAnswer caps r [] [] answer × (code ≡ answer_code answer)

-- the same, or why there is no answer: a name is not UTF-8, or an allocation failed
abbrev pub IsCodeWith : Option Caps → SigRequest → List SigApplication → List SigCall → ℕ → Type 0
IsCodeWith None r applications calls code = code ≡ numbers.empty
IsCodeWith (Some caps) r applications calls code =
    (outcome : Result Answer Trouble) × IfOk outcome (IsAnswer caps r applications calls) × (code ≡ code_of outcome)

-- the numbers of the answers to several requests
abbrev pub AreCodes : Caps → List SigRequest → List ℕ → Type 0
AreCodes caps [] [] = Unit {0}
AreCodes caps [] (code ∷ codes) = ⊥
AreCodes caps (r ∷ rs) [] = ⊥
AreCodes caps (r ∷ rs) (code ∷ codes) = IsCode (Some caps) r code × AreCodes caps rs codes

-- ---- reports

abbrev pub address_of : Origin → Option Address
address_of Anywhere = None
address_of (At address) = Some address
address_of Unreadable = None

-- an address that is allowed and one that is denied, as options of `osdgate verdict`
abbrev pub split_text : Address → Address → List ℕ
split_text allowed denied = codes "allow --from " ++ (address_text allowed ++ (codes "\ndeny --from " ++ (address_text denied ++ codes "\n")))

-- an answer with what is reported of it: the report of a denial, or two addresses of which one is allowed
abbrev pub IsReportedAt : Rights → Target → Needs → ℕ → Origin → Reported → Type 0
IsReportedAt rights target needs tick origin reported.Allowed = IsAnswerAt rights target needs tick origin answers.Allowed
IsReportedAt rights target needs tick origin reported.BadAddress = IsAnswerAt rights target needs tick origin answers.BadAddress
IsReportedAt rights target needs tick origin (reported.Denied text) =
    IsAnswerAt rights target needs tick origin answers.Denied × (string_bytes text ≡ report_text (report_from rights target needs tick (address_of origin)))
IsReportedAt rights target needs tick origin (reported.Depends text) =
    (origin ≡ Anywhere) × ((allowed : Address) × (denied : Address) × IsVerdict rights target needs tick (everywhere.Depends allowed denied) × (string_bytes text ≡ split_text allowed denied))

abbrev pub IsReported : Caps → SigRequest → List SigApplication → List SigCall → Reported → Type 0
IsReported caps r applications calls found =
    (origin : Origin) × IsOriginFor caps.rights r.from.now origin × IsReportedAt caps.rights (target_of r applications) (needs_of r calls) r.tick origin found

abbrev pub reported_code : Result Reported Trouble → ℕ
reported_code (Ok reported.Allowed) = numbers.allow
reported_code (Ok reported.BadAddress) = numbers.bad_address
reported_code (Ok (reported.Denied text)) = numbers.deny
reported_code (Ok (reported.Depends text)) = numbers.depends
reported_code (Err trouble) = trouble_code trouble

abbrev pub reported_text : Result Reported Trouble → Option (List ℕ)
reported_text (Ok reported.Allowed) = None
reported_text (Ok reported.BadAddress) = None
reported_text (Ok (reported.Denied text)) = Some (string_bytes text)
reported_text (Ok (reported.Depends text)) = Some (string_bytes text)
reported_text (Err trouble) = None

-- the buffer has as much of a text as fits, and its whole length is known; nothing is written where there is no text
abbrev pub IsWritten : Option (List ℕ) → ℕ → List ℕ → List ℕ → Type 0
IsWritten None needed before after = after ≡ before
IsWritten (Some text) needed before after = (needed ≡ length text) × (after ≡ filled text before)

-- the number of the answer, and what is written of its report
abbrev pub IsReport : Option Caps → SigRequest → List SigApplication → List SigCall → ℕ → ℕ → List ℕ → List ℕ → Type 0
IsReport None r applications calls code needed before after = (code ≡ numbers.empty) × (after ≡ before)
IsReport (Some caps) r applications calls code needed before after =
    (outcome : Result Reported Trouble) × IfOk outcome (IsReported caps r applications calls) × (code ≡ reported_code outcome)
    × IsWritten (reported_text outcome) needed before after
