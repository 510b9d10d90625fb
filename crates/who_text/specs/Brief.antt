-- Refinement: only contracts inside the crate use it.
-- Answers without the reports that denials have, and the cells of a row.
use Rattle.std.specs.Prelude.{ℕ, ◌≡◌, List, ◌++◌, Option, Some, None, Result, Ok, Err, codes, flat_map, if◌then◌else◌}
use Rattle.network_core.specs.declared.address.Address.{Address}
use Rattle.object_core.specs.declared.needs.NeedsFault.{NeedsFault}
use Rattle.request_types.specs.Target.{Target}
use Rattle.request_types.specs.declared.request.Needs.{Needs}
use Rattle.rights_core.specs.Rights.{Rights}
use Rattle.rights_core.specs.Verdicts.{IsVerdict, allowed_at}
use Rattle.rights_core.specs.declared.judging.Everywhere.{Everywhere}
use Rattle.rights_core.specs.declared.judging.Everywhere.TheVariants.{Allowed, Denied, Depends}
use Rattle.verdict_text.specs.Asked.{Asked, asked_needs, calls_fault}
use Rattle.verdict_text.specs.Reading.{Reading, first_word}
use Rattle.verdict_text.specs.Text.{fault_text}
use Rattle.verdict_text.specs.declared.verdict.Verdict.{Verdict}
use Rattle.verdict_text.specs.declared.verdict.VerdictFault.{VerdictFault}
use Rattle.verdict_text.specs.declared.verdict.VerdictFault.TheVariants.{Text, Calls}
use Rattle.who_text.specs.Table.{AreAnswers, aligned, cell}

-- the verdict from an address, or over all addresses
abbrev pub IsBrief : Rights → Target → Needs → ℕ → Option Address → Everywhere → Type 0
IsBrief rights target needs tick (Some address) verdict = verdict ≡ (if allowed_at rights target needs tick address then Allowed else Denied)
IsBrief rights target needs tick None verdict = IsVerdict rights target needs tick verdict

-- a fault of the calls, or the verdict
abbrev pub IsBriefNeeded : Option NeedsFault → Rights → Asked → Result Everywhere VerdictFault → Type 0
IsBriefNeeded (Some fault) rights asked answer = answer ≡ Err (Calls fault)
IsBriefNeeded None rights asked (Err fault) = ⊥
IsBriefNeeded None rights asked (Ok verdict) = IsBrief rights asked.target (asked_needs asked) asked.tick asked.from verdict

-- the fault of a text that was read, or a fault of the calls, or the verdict
abbrev pub IsBriefAnswer : Reading → Asked → Result Everywhere VerdictFault → Type 0
IsBriefAnswer (Err fault) asked answer = answer ≡ Err (Text fault)
IsBriefAnswer (Ok rights) asked answer = IsBriefNeeded (calls_fault asked) rights asked answer

-- an answer's word, or its fault's number
abbrev pub brief_cell : Result Everywhere VerdictFault → List ℕ
brief_cell (Ok Allowed) = aligned (codes "allow")
brief_cell (Ok Denied) = aligned (codes "deny")
brief_cell (Ok (Depends allowed denied)) = aligned (codes "depends")
brief_cell (Err fault) = aligned (first_word (fault_text fault))

-- the cells of the answers are added
abbrev pub AreCellsAdded : Reading → List Asked → List ℕ → List ℕ → Type 0
AreCellsAdded read requests before after =
    (answers : List (Result Verdict VerdictFault)) × AreAnswers read requests answers × (after ≡ before ++ flat_map cell answers)
