-- Statement: contracts of public calls use it.
-- Lists of daemons in which each stands once.
use Rattle.std.specs.Prelude.{ℕ, Bool, true, ◌==◌, ◌&&◌, not, List, [], ◌∷◌}
use Rattle.std.specs.List.{list_any}

abbrev pub is_distinct : List ℕ → Bool
is_distinct [] = true
is_distinct (m ∷ ms) = not (list_any (λ d. d == m) ms) && is_distinct ms
