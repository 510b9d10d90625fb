-- An answer without its report has the cell of a whole answer.
use Rattle.std.proofs.Common.{◌≡◌, ℕ, ◌+◌, ◌<◌, length, take, get_or, List, [], ◌∷◌, ◌++◌, append_assoc, Bool, true, false, Option, Some, None, Result, Ok, Err, refl, sym, ap, ◌∙◌, if◌then◌else◌}
use Rattle.std.specs.List.{flat_map}
use Rattle.std.proofs.lemmas.Grind.{flat_map-append}
use Rattle.std.proofs.lemmas.List.{append-nil}
use Rattle.network_core.specs.declared.address.Address.{Address}
use Rattle.object_core.specs.declared.needs.NeedsFault.{NeedsFault}
use Rattle.request_types.specs.Target.{Target}
use Rattle.request_types.specs.declared.request.Condition.{Condition}
use Rattle.request_types.specs.declared.request.Needs.{Needs}
use Rattle.rights_core.specs.Reports.{report_from}
use Rattle.rights_core.specs.Rights.{Rights}
use Rattle.rights_core.specs.Verdicts.{allowed_at}
use Rattle.rights_core.specs.declared.judging.Everywhere.{Everywhere}
use Rattle.rights_core.specs.declared.judging.Everywhere.TheVariants as brief
use Rattle.verdict_text.specs.Answer.{IsAnswerOf, IsJudged, IsNeeded, judged_at}
use Rattle.verdict_text.specs.Asked.{Asked, asked_needs, calls_fault}
use Rattle.verdict_text.specs.Reading.{Reading}
use Rattle.verdict_text.specs.declared.verdict.Verdict.{Verdict}
use Rattle.verdict_text.specs.declared.verdict.Verdict.TheVariants as whole
use Rattle.verdict_text.specs.declared.verdict.VerdictFault.{VerdictFault}
use Rattle.verdict_text.specs.declared.verdict.VerdictFault.TheVariants.{Text, Calls}
use Rattle.who_text.specs.Brief.{AreCellsAdded, IsBrief, IsBriefAnswer, IsBriefNeeded, brief_cell}
use Rattle.who_text.specs.Table.{cell}
use Rattle.who_text.proofs.Answers.{next_answer}

at_address : (report : List (List ℕ × Condition)) (b : Bool) (verdict : Everywhere) → verdict ≡ (if b then brief.Allowed else brief.Denied)
    → cell (Ok (if b then whole.Allowed else whole.Denied report)) ≡ brief_cell (Ok verdict)
at_address report true verdict h = ap (λ v. brief_cell (Ok v)) (sym h)
at_address report false verdict h = ap (λ v. brief_cell (Ok v)) (sym h)

judged : (rights : Rights) (target : Target) (needs : Needs) (tick : ℕ) (from : Option Address) (verdict : Everywhere) → IsBrief rights target needs tick from verdict
    → (v : Verdict) × IsJudged rights target needs tick from v × (cell (Ok v) ≡ brief_cell (Ok verdict))
judged rights target needs tick (Some address) verdict h =
    (judged_at rights target needs tick address, refl, at_address (report_from rights target needs tick (Some address)) (allowed_at rights target needs tick address) verdict h)
judged rights target needs tick None brief.Allowed h = (whole.Allowed, h, refl)
judged rights target needs tick None brief.Denied h = (whole.Denied (report_from rights target needs tick None), (h, refl), refl)
judged rights target needs tick None (brief.Depends allowed denied) h = (whole.Depends allowed denied, h, refl)

needed : (fault : Option NeedsFault) (rights : Rights) (asked : Asked) (answer : Result Everywhere VerdictFault) → IsBriefNeeded fault rights asked answer
    → (w : Result Verdict VerdictFault) × IsNeeded fault rights asked w × (cell w ≡ brief_cell answer)
needed (Some fault) rights asked answer h = (Err (Calls fault), refl, ap brief_cell (sym h))
needed None rights asked (Err fault) h = absurd h
needed None rights asked (Ok verdict) h =
    let found = judged rights asked.target (asked_needs asked) asked.tick asked.from verdict h in
    (Ok found.0, found.1, found.2)

whole_answer : (read : Reading) (asked : Asked) (answer : Result Everywhere VerdictFault) → IsBriefAnswer read asked answer
    → (w : Result Verdict VerdictFault) × IsAnswerOf read asked w × (cell w ≡ brief_cell answer)
whole_answer (Err fault) asked answer h = (Err (Text fault), refl, ap brief_cell (sym h))
whole_answer (Ok rights) asked answer h = needed (calls_fault asked) rights asked answer h

text_more : (initial old new added : List ℕ) (answers : List (Result Verdict VerdictFault)) (answer : Result Verdict VerdictFault) → old ≡ initial ++ flat_map cell answers → new ≡ old ++ added → cell answer ≡ added
    → new ≡ initial ++ flat_map cell (answers ++ answer ∷ [])
text_more initial old new added answers answer so_far pushed same =
    pushed
    ∙ (ap (λ t. t ++ added) so_far
    ∙ (append_assoc initial (flat_map cell answers) added
    ∙ ap (λ l. initial ++ l) (ap (λ l. flat_map cell answers ++ l) (sym (append-nil (cell answer) ∙ same)) ∙ sym (flat_map-append cell answers (answer ∷ [])))))

-- one more cell
pub next_cell : (read : Reading) (requests : List Asked) (i : ℕ) (asked : Asked) (brief_one : Result Everywhere VerdictFault) (initial old new : List ℕ)
    → i < length requests → asked ≡ get_or requests i asked → AreCellsAdded read (take i requests) initial old → IsBriefAnswer read asked brief_one → new ≡ old ++ brief_cell brief_one
    → AreCellsAdded read (take (i + 1) requests) initial new
next_cell read requests i asked brief_one initial old new within at so_far is pushed =
    let found = whole_answer read asked brief_one is in
    let answers : List (Result Verdict VerdictFault) = so_far.0 in (
      answers ++ found.0 ∷ [],
      next_answer read requests i asked answers (answers ++ found.0 ∷ []) found.0 within at so_far.1 found.1 refl,
      text_more initial old new (brief_cell brief_one) answers found.0 so_far.2 pushed found.2,
    )

-- no cell yet
pub no_cells : (read : Reading) (initial : List ℕ) → AreCellsAdded read [] initial initial
no_cells read initial = ([], refl, sym (append-nil initial))
