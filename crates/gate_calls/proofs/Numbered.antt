-- The numbers of answers.
use Rattle.std.proofs.Common.{◌≡◌, ℕ, ◌+◌, ◌<◌, ◌≤◌, Option, Some, None, Result, List, [], ◌∷◌, ◌++◌, length, take, get_or, set, sym, subst, IfOk}
use Rattle.std.proofs.lemmas.List.{take_all, take_more, take_more_set}
use Rattle.gate_calls.specs.Answers.{AreCodes, IsAnswer, IsCode, IsCodeWith, IsReport, IsReported, IsWritten, answer_code, code_of, reported_code, reported_text}
use Rattle.gate_calls.specs.Caps.{Caps}
use Rattle.gate_calls.specs.declared.answering.Answer.{Answer}
use Rattle.gate_calls.specs.declared.reporting.Reported.{Reported}
use Rattle.gate_calls.specs.declared.request.SigApplication.{SigApplication}
use Rattle.gate_calls.specs.declared.request.SigCall.{SigCall}
use Rattle.gate_calls.specs.declared.request.SigRequest.{SigRequest}
use Rattle.gate_calls.specs.declared.request.Trouble.{Trouble}

pub some_code : (held : Option Caps) (caps : Caps) (r : SigRequest) (a : Answer) (code : ℕ) → held ≡ Some caps → IsAnswer caps r [] [] a → code ≡ answer_code a → IsCode held r code
some_code held caps r a code e is same = rw e (a, is, same)

pub no_code : (held : Option Caps) (r : SigRequest) (code : ℕ) → held ≡ None → code ≡ 2 → IsCode held r code
no_code held r code e same = rw e same

pub some_code_with : (held : Option Caps) (caps : Caps) (r : SigRequest) (applications : List SigApplication) (calls : List SigCall) (outcome : Result Answer Trouble) (code : ℕ)
    → held ≡ Some caps → IfOk outcome (IsAnswer caps r applications calls) → code ≡ code_of outcome → IsCodeWith held r applications calls code
some_code_with held caps r applications calls outcome code e is same = rw e (outcome, is, same)

pub no_code_with : (held : Option Caps) (r : SigRequest) (applications : List SigApplication) (calls : List SigCall) (code : ℕ) → held ≡ None → code ≡ 2 → IsCodeWith held r applications calls code
no_code_with held r applications calls code e same = rw e same

pub some_report : (held : Option Caps) (caps : Caps) (r : SigRequest) (applications : List SigApplication) (calls : List SigCall) (outcome : Result Reported Trouble) (code needed : ℕ) (before after : List ℕ)
    → held ≡ Some caps → IfOk outcome (IsReported caps r applications calls) → code ≡ reported_code outcome → IsWritten (reported_text outcome) needed before after
    → IsReport held r applications calls code needed before after
some_report held caps r applications calls outcome code needed before after e is same written = rw e (outcome, is, same, written)

pub no_report : (held : Option Caps) (r : SigRequest) (applications : List SigApplication) (calls : List SigCall) (code needed : ℕ) (before after : List ℕ)
    → held ≡ None → code ≡ 2 → after ≡ before → IsReport held r applications calls code needed before after
no_report held r applications calls code needed before after e same kept = rw e (same, kept)

-- ---- several answers

added : (caps : Caps) (rs : List SigRequest) (codes : List ℕ) (r : SigRequest) (code : ℕ) → AreCodes caps rs codes → IsCode (Some caps) r code → AreCodes caps (rs ++ r ∷ []) (codes ++ code ∷ [])
added caps [] [] r code so_far is = (is, tt)
added caps [] (c ∷ cs) r code so_far is = absurd so_far
added caps (q ∷ rs) [] r code so_far is = absurd so_far
added caps (q ∷ rs) (c ∷ cs) r code so_far is = (so_far.0, added caps rs cs r code so_far.1 is)

-- one more answer
pub one_more : (caps : Caps) (rs : List SigRequest) (codes : List ℕ) (i : ℕ) (d : SigRequest) (a : Answer) (code : ℕ) → i < length rs → i < length codes
    → IsAnswer caps (get_or rs i d) [] [] a → code ≡ answer_code a → AreCodes caps (take i rs) (take i codes) → AreCodes caps (take (i + 1) rs) (take (i + 1) (set codes i code))
one_more caps rs codes i d a code within room is same so_far =
    let more : AreCodes caps (take i rs ++ get_or rs i d ∷ []) (take i codes ++ code ∷ []) = added caps (take i rs) (take i codes) (get_or rs i d) code so_far (a, is, same) in
    subst (λ front. AreCodes caps front (take (i + 1) (set codes i code))) (sym (take_more rs i d within))
    (subst (λ front. AreCodes caps (take i rs ++ get_or rs i d ∷ []) front) (sym (take_more_set codes i code room)) more)

pub all_codes : (caps : Caps) (rs : List SigRequest) (codes : List ℕ) (i : ℕ) → length rs ≤ i → length codes ≡ length rs → AreCodes caps (take i rs) (take i codes) → AreCodes caps rs codes
all_codes caps rs codes i past same so_far =
    let there : length codes ≤ i = rw same past in
    subst (λ front. AreCodes caps front codes) (take_all i rs past) (subst (λ front. AreCodes caps (take i rs) front) (take_all i codes there) so_far)
