-- Requests by their ids.
use Rattle.std.proofs.Common.{◌≡◌, ◌∙◌, ℕ, ◌==◌, Bool, cond, List, [], ◌∷◌, ◌++◌, Some, refl, ap}
use Rattle.std.specs.Map.{lookup}
use Rattle.std.proofs.lemmas.List.{map-append}
use Rattle.store_core.specs.Request.{Sealed}
use Rattle.group_model_whole.specs.Group.{submitted}
use Rattle.group_model_whole.proofs.ById.{same_turned}
use Rattle.world_events.specs.Submitting.{requests_in, AreKeyed}

pub request_found : (es : List (ℕ × Sealed)) (id : ℕ) → AreKeyed es → lookup (λ k. id == k) es ≡ submitted (requests_in es) id
request_found [] id h = refl
request_found (e ∷ es) id h = go (id == e.0) (same_turned id e.0 ∙ ap (λ k. k == id) h.0) (request_found es id h.1)
  where
    go : (b : Bool) → b ≡ (e.1.id == id) → lookup (λ k. id == k) es ≡ submitted (requests_in es) id → cond b (Some e.1) (lookup (λ k. id == k) es) ≡ cond (e.1.id == id) (Some e.1) (submitted (requests_in es) id)
    go b same rest = ap (λ t. cond t (Some e.1) (lookup (λ k. id == k) es)) same ∙ ap (λ o. cond (e.1.id == id) (Some e.1) o) rest

pub keyed_push : (es : List (ℕ × Sealed)) (id : ℕ) (s : Sealed) → AreKeyed es → id ≡ s.id → AreKeyed (es ++ (id, s) ∷ [])
keyed_push [] id s h is = (is, tt)
keyed_push (e ∷ es) id s h is = (h.0, keyed_push es id s h.1 is)

pub requests_push : (es : List (ℕ × Sealed)) (id : ℕ) (s : Sealed) → requests_in (es ++ (id, s) ∷ []) ≡ requests_in es ++ s ∷ []
requests_push es id s = map-append (λ (e : ℕ × Sealed). e.1) es ((id, s) ∷ [])
