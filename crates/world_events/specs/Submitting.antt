-- Statement: contracts of public calls use it.
-- Requests by their ids.
use Rattle.std.specs.Prelude.{◌≡◌, ℕ, List, [], ◌∷◌, ◌++◌, None, map}
use Rattle.store_core.specs.Request.{Sealed}
use Rattle.group_model_whole.specs.Each.{Each}
use Rattle.group_model_whole.specs.Group.{submitted}

-- the requests of entries
abbrev pub requests_in : List (ℕ × Sealed) → List Sealed
requests_in entries = map (λ e. e.1) entries

-- each stands under its id
abbrev pub AreKeyed : List (ℕ × Sealed) → Type 0
AreKeyed entries = Each (λ e. e.0 ≡ e.1.id) entries

-- each id is new where its request is added
abbrev pub AreNew : List Sealed → List Sealed → Type 0
AreNew old [] = Unit {0}
AreNew old (r ∷ rs) = (submitted old r.id ≡ None) × AreNew (old ++ r ∷ []) rs
