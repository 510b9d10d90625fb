-- Statement: contracts of public calls use it.
-- The answer of a capability text to a request.
use Rattle.std.specs.Prelude.{ℕ, ◌≡◌, List, true, false, Option, Some, None, Result, Ok, Err, if◌then◌else◌}
use Rattle.network_core.specs.declared.address.Address.{Address}
use Rattle.network_core.specs.Address.{IsAddress}
use Rattle.request_types.specs.declared.request.Needs.{Needs}
use Rattle.request_types.specs.Target.{Target}
use Rattle.rights_core.specs.Verdicts.{allowed_at}
use Rattle.rights_core.specs.Reports.{report_from}
use Rattle.rights_core.specs.Rights.{Rights}
use Rattle.object_core.specs.declared.needs.NeedsFault.{NeedsFault}
use Rattle.verdict_text.specs.Asked.{Asked, asked_needs, calls_fault}
use Rattle.verdict_text.specs.Reading.{IsReading, Reading}
use Rattle.verdict_text.specs.declared.reading.Rules.{Rules}
use Rattle.verdict_text.specs.declared.verdict.Verdict.{Verdict}
use Rattle.verdict_text.specs.declared.verdict.Verdict.TheVariants.{Allowed, Denied, Depends}
use Rattle.verdict_text.specs.declared.verdict.VerdictFault.{VerdictFault}
use Rattle.verdict_text.specs.declared.verdict.VerdictFault.TheVariants.{Text, Calls}

-- allowed from the address, or denied with the report
abbrev pub judged_at : Rights → Target → Needs → ℕ → Address → Verdict
judged_at rights target needs tick address =
    if allowed_at rights target needs tick address then Allowed else Denied (report_from rights target needs tick (Some address))

-- the verdict from an address; without one it is Allowed at all addresses, Denied at all, or allowed at one and denied at another
abbrev pub IsJudged : Rights → Target → Needs → ℕ → Option Address → Verdict → Type 0
IsJudged rights target needs tick (Some address) verdict = verdict ≡ judged_at rights target needs tick address
IsJudged rights target needs tick None Allowed = (a : Address) → IsAddress a → allowed_at rights target needs tick a ≡ true
IsJudged rights target needs tick None (Denied report) =
    ((a : Address) → IsAddress a → allowed_at rights target needs tick a ≡ false) × (report ≡ report_from rights target needs tick None)
IsJudged rights target needs tick None (Depends allowed denied) =
    IsAddress allowed × (allowed_at rights target needs tick allowed ≡ true)
    × IsAddress denied × (allowed_at rights target needs tick denied ≡ false)

-- a fault of the calls, or the verdict
abbrev pub IsNeeded : Option NeedsFault → Rights → Asked → Result Verdict VerdictFault → Type 0
IsNeeded (Some fault) rights asked answer = answer ≡ Err (Calls fault)
IsNeeded None rights asked (Err fault) = ⊥
IsNeeded None rights asked (Ok verdict) = IsJudged rights asked.target (asked_needs asked) asked.tick asked.from verdict

-- the answer of a text that was read: its fault, or a fault of the calls, or the verdict of its rights
abbrev pub IsAnswerOf : Reading → Asked → Result Verdict VerdictFault → Type 0
IsAnswerOf (Err fault) asked answer = answer ≡ Err (Text fault)
IsAnswerOf (Ok rights) asked answer = IsNeeded (calls_fault asked) rights asked answer

-- the answer of a text whose rights end at this tick
abbrev pub IsAnswer : Rules → List ℕ → Option ℕ → Asked → Result Verdict VerdictFault → Type 0
IsAnswer rules caps until asked answer = (read : Reading) × IsReading rules caps until read × IsAnswerOf read asked answer
