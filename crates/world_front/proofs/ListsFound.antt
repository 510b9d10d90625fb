-- Lists by the ids of their first requests.
use Rattle.std.proofs.Common.{◌≡◌, ◌∙◌, ℕ, ◌==◌, Bool, true, false, cond, List, [], ◌∷◌, ◌++◌, Option, Some, None, refl, sym, ap, eqb-true}
use Rattle.std.specs.Option.{option_map}
use Rattle.std.specs.List.{find}
use Rattle.std.specs.Map.{lookup}
use Rattle.std.proofs.lemmas.List.{map-append}
use Rattle.group_model_whole.proofs.ById.{same_turned}
use Rattle.world_front.specs.ControlPlane.{ListRange}
use Rattle.world_front.specs.Lists.{lists_in}

pub list_found : (es : List (ℕ × ℕ)) (id : ℕ) → option_map (λ count. record { first = id; count = count }) (lookup (λ k. id == k) es) ≡ find (λ (p : ListRange). p.first == id) (lists_in es)
list_found [] id = refl
list_found (e ∷ es) id = go (id == e.0) refl (list_found es id)
  where
    made : ℕ → ListRange
    made count = record { first = id; count = count }

    turned : (b : Bool) → (id == e.0) ≡ b → (e.0 == id) ≡ b
    turned b is = same_turned e.0 id ∙ is

    go : (b : Bool) → (id == e.0) ≡ b → option_map made (lookup (λ k. id == k) es) ≡ find (λ (p : ListRange). p.first == id) (lists_in es)
        → option_map made (cond b (Some e.1) (lookup (λ k. id == k) es)) ≡ cond (e.0 == id) (Some (record { first = e.0; count = e.1 })) (find (λ (p : ListRange). p.first == id) (lists_in es))
    go true is rest =
        ap (λ k. Some (record { first = k; count = e.1 })) (eqb-true id e.0 is)
        ∙ sym (ap (λ t. cond t (Some (record { first = e.0; count = e.1 })) (find (λ (p : ListRange). p.first == id) (lists_in es))) (turned true is))
    go false is rest = rest ∙ sym (ap (λ t. cond t (Some (record { first = e.0; count = e.1 })) (find (λ (p : ListRange). p.first == id) (lists_in es))) (turned false is))

-- no list begins with the request
pub list_absent : (es : List (ℕ × ℕ)) (id : ℕ) → find (λ (p : ListRange). p.first == id) (lists_in es) ≡ None → lookup (λ k. id == k) es ≡ None
list_absent es id h = none (lookup (λ k. id == k) es) (list_found es id ∙ h)
  where
    made : ℕ → ListRange
    made count = record { first = id; count = count }

    none : (o : Option ℕ) → option_map made o ≡ None → o ≡ None
    none None e = refl
    none (Some k) e = absurd (cc)

pub lists_push : (es : List (ℕ × ℕ)) (first count : ℕ) → lists_in (es ++ (first, count) ∷ []) ≡ lists_in es ++ record { first = first; count = count } ∷ []
lists_push es first count = map-append (λ (e : ℕ × ℕ). record { first = e.0; count = e.1 }) es ((first, count) ∷ [])
