-- The grant at an index, alone, and a list of answers that grows index by index.
use Rattle.std.proofs.Common.{◌≡◌, ℕ, ◌+◌, ◌-◌, ◌<◌, List, [], ◌∷◌, ◌++◌, Bool, map, take, drop, length, get_or, sym, ap, ◌∙◌, arith}
use Rattle.std.proofs.lemmas.Grind.{take_at_read}
use Rattle.std.proofs.lemmas.List.{map-append}
use Rattle.cap_grants.specs.declared.grant.Grant.{Grant}
use Rattle.lint_core.specs.Lint.{alone}
use Rattle.lint_core.proofs.Steps.{behind_is, first_of_list}

pub one_alone : (grants : List Grant) (place : ℕ) (d : Grant) → place < length grants → alone grants place ≡ get_or grants place d ∷ []
one_alone grants place d h =
    let one : place + 1 - place ≡ 1 = omega arith in
    (λ i. take (one i) (behind_is grants place d h i))

-- the answer of one more index is appended
pub told_next : (test : List Grant → Bool) (grants : List Grant) (place : ℕ) (old new : List Bool) (next : Bool) → place < length grants
    → old ≡ map (λ grant. test (grant ∷ [])) (take place grants) → new ≡ old ++ next ∷ [] → next ≡ test (alone grants place)
    → new ≡ map (λ grant. test (grant ∷ [])) (take (place + 1) grants)
told_next test grants place old new next h so_far pushed is =
    let d : Grant = first_of_list grants place h in
    let f : Grant → Bool = λ grant. test (grant ∷ []) in
    pushed ∙ ((λ i. so_far i ++ (is ∙ ap test (one_alone grants place d h)) i ∷ [])
    ∙ (sym (map-append f (take place grants) (get_or grants place d ∷ [])) ∙ ap (map f) (sym ((take_at_read grants place d h).1))))
