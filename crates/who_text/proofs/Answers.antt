-- The answers of a text to requests, one after another.
use Rattle.std.proofs.Common.{◌≡◌, ℕ, ◌+◌, ◌<◌, ◌≤◌, List, [], ◌∷◌, ◌++◌, Result, get_or, take, length, refl, sym, ap, subst, ◌∙◌}
use Rattle.std.proofs.lemmas.Grind.{take_at_read}
use Rattle.std.proofs.lemmas.List.{take_all}
use Rattle.verdict_text.specs.Answer.{IsAnswerOf}
use Rattle.verdict_text.specs.Reading.{Reading}
use Rattle.verdict_text.specs.Asked.{Asked}
use Rattle.who_text.specs.Table.{AreAnswers}
use Rattle.verdict_text.specs.declared.verdict.Verdict.{Verdict}
use Rattle.verdict_text.specs.declared.verdict.VerdictFault.{VerdictFault}

one_more : (read : Reading) (requests : List Asked) (asked : Asked) (answers : List (Result Verdict VerdictFault)) (answer : Result Verdict VerdictFault)
    → AreAnswers read requests answers → IsAnswerOf read asked answer → AreAnswers read (requests ++ asked ∷ []) (answers ++ answer ∷ [])
one_more read [] asked answers answer so_far is = (answer, [], is, refl, ap (λ some. some ++ answer ∷ []) so_far)
one_more read (r ∷ rs) asked answers answer (first, rest, is_first, are_rest, parts) is =
    (first, rest ++ answer ∷ [], is_first, one_more read rs asked rest answer are_rest is, ap (λ some. some ++ answer ∷ []) parts)

-- one more request
pub next_answer : (read : Reading) (requests : List Asked) (i : ℕ) (asked : Asked) (old new : List (Result Verdict VerdictFault)) (answer : Result Verdict VerdictFault)
    → i < length requests → asked ≡ get_or requests i asked → AreAnswers read (take i requests) old → IsAnswerOf read asked answer → new ≡ old ++ answer ∷ []
    → AreAnswers read (take (i + 1) requests) new
next_answer read requests i asked old new answer within at so_far is same =
    let more : AreAnswers read (take i requests ++ asked ∷ []) (old ++ answer ∷ []) = one_more read (take i requests) asked old answer so_far is in
    let longer : AreAnswers read (take (i + 1) requests) (old ++ answer ∷ []) =
    subst (λ some. AreAnswers read some (old ++ answer ∷ [])) (ap (λ a. take i requests ++ a ∷ []) at ∙ sym ((take_at_read requests i asked within).1)) more in
    subst (AreAnswers read (take (i + 1) requests)) (sym same) longer

-- all requests
pub whole_answers : (read : Reading) (requests : List Asked) (i : ℕ) (answers : List (Result Verdict VerdictFault)) → length requests ≤ i
    → AreAnswers read (take i requests) answers → AreAnswers read requests answers
whole_answers read requests i answers past so_far = subst (λ front. AreAnswers read front answers) (take_all i requests past) so_far
