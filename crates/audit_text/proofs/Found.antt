-- What the entities of a list reach, one after another.
use Rattle.std.proofs.Common.{◌≡◌, ℕ, ◌+◌, ◌<◌, ◌≤◌, List, [], ◌∷◌, ◌++◌, Option, get_or, take, length, append_assoc, refl, sym, ap, subst, ◌∙◌}
use Rattle.std.specs.Option.{option_to_list}
use Rattle.std.proofs.lemmas.Grind.{take_at_read}
use Rattle.std.proofs.lemmas.List.{take_all, append-nil}
use Rattle.share_core.specs.declared.pools.Pool.{Pool}
use Rattle.verdict_text.specs.declared.entity.ReadEntity.{ReadEntity}
use Rattle.audit_text.specs.Reached.{AreFound, IsFound}
use Rattle.audit_text.specs.declared.reached.Reached.{Reached}

one_more : (pools : List Pool) (entities : List ReadEntity) (entity : ReadEntity) (all : List Reached) (found : Option Reached)
    → AreFound pools entities all → IsFound pools entity found → AreFound pools (entities ++ entity ∷ []) (all ++ option_to_list found)
one_more pools [] entity all found so_far is = (found, [], is, refl, ap (λ some. some ++ option_to_list found) so_far ∙ sym (append-nil (option_to_list found)))
one_more pools (e ∷ es) entity all found (first, rest, is_first, are_rest, parts) is = (
  first,
  rest ++ option_to_list found,
  is_first,
  one_more pools es entity rest found are_rest is,
  ap (λ some. some ++ option_to_list found) parts ∙ append_assoc (option_to_list first) rest (option_to_list found),
)

-- one more entity
pub next_found : (pools : List Pool) (entities : List ReadEntity) (i : ℕ) (entity : ReadEntity) (old new : List Reached) (found : Option Reached)
    → i < length entities → entity ≡ get_or entities i entity → AreFound pools (take i entities) old → IsFound pools entity found → new ≡ old ++ option_to_list found
    → AreFound pools (take (i + 1) entities) new
next_found pools entities i entity old new found within at so_far is same =
    let more : AreFound pools (take i entities ++ entity ∷ []) (old ++ option_to_list found) = one_more pools (take i entities) entity old found so_far is in
    let longer : AreFound pools (take (i + 1) entities) (old ++ option_to_list found) =
    subst (λ some. AreFound pools some (old ++ option_to_list found)) (ap (λ e. take i entities ++ e ∷ []) at ∙ sym ((take_at_read entities i entity within).1)) more in
    subst (AreFound pools (take (i + 1) entities)) (sym same) longer

-- all entities
pub whole_found : (pools : List Pool) (entities : List ReadEntity) (i : ℕ) (all : List Reached) → length entities ≤ i
    → AreFound pools (take i entities) all → AreFound pools entities all
whole_found pools entities i all past so_far = subst (λ front. AreFound pools front all) (take_all i entities past) so_far
