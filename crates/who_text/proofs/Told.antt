-- What is printed of entities, one after another.
use Rattle.std.proofs.Common.{◌≡◌, ℕ, ◌+◌, ◌<◌, ◌≤◌, List, [], ◌∷◌, ◌++◌, get_or, take, length, refl, sym, ap, subst, ◌∙◌, append_assoc}
use Rattle.std.proofs.lemmas.Grind.{take_at_read}
use Rattle.std.proofs.lemmas.List.{take_all}
use Rattle.who_text.specs.Who.{AreInOrder}
use Rattle.verdict_text.specs.declared.entity.ReadEntity.{ReadEntity}

append_nil : (text : List ℕ) → text ++ [] ≡ text
append_nil [] = refl
append_nil (b ∷ bs) = ap (λ rest. b ∷ rest) (append_nil bs)

one_more : (IsOne : ReadEntity → List ℕ → Type 0) (entities : List ReadEntity) (entity : ReadEntity) (text front : List ℕ) → AreInOrder IsOne entities text → IsOne entity front
    → AreInOrder IsOne (entities ++ entity ∷ []) (text ++ front)
one_more IsOne [] entity text front so_far is = (front, [], is, refl, ap (λ t. t ++ front) so_far ∙ sym (append_nil front))
one_more IsOne (e ∷ es) entity text front (first, rest, is_first, is_rest, parts) is =
    (first, rest ++ front, is_first, one_more IsOne es entity rest front is_rest is, ap (λ t. t ++ front) parts ∙ append_assoc first rest front)

-- one more entity
pub next_in_order : (IsOne : ReadEntity → List ℕ → Type 0) (entities : List ReadEntity) (i : ℕ) (entity : ReadEntity) (old new front : List ℕ)
    → i < length entities → entity ≡ get_or entities i entity → AreInOrder IsOne (take i entities) old → IsOne entity front → new ≡ old ++ front
    → AreInOrder IsOne (take (i + 1) entities) new
next_in_order IsOne entities i entity old new front within at so_far is same =
    let more : AreInOrder IsOne (take i entities ++ entity ∷ []) (old ++ front) = one_more IsOne (take i entities) entity old front so_far is in
    let longer : AreInOrder IsOne (take (i + 1) entities) (old ++ front) =
    subst (λ some. AreInOrder IsOne some (old ++ front)) (ap (λ e. take i entities ++ e ∷ []) at ∙ sym ((take_at_read entities i entity within).1)) more in
    subst (AreInOrder IsOne (take (i + 1) entities)) (sym same) longer

-- all entities
pub whole_order : (IsOne : ReadEntity → List ℕ → Type 0) (entities : List ReadEntity) (i : ℕ) (text : List ℕ) → length entities ≤ i → AreInOrder IsOne (take i entities) text
    → AreInOrder IsOne entities text
whole_order IsOne entities i text past so_far = subst (λ front. AreInOrder IsOne front text) (take_all i entities past) so_far
