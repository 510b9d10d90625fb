-- Statement: contracts of public calls use it.
-- Patterns of names (this project's profile). As for a shell, a star stands for any bytes, also none, and any other byte for itself.
use Rattle.std.specs.Prelude.{ℕ, ◌==◌, ◌&&◌, ◌||◌, Bool, true, false, List, [], ◌∷◌, if◌then◌else◌}

-- whether a pattern fits a name as a whole: a star stands for nothing here, or for this byte and those behind it
abbrev pub fits : List ℕ → List ℕ → Bool
fits [] [] = true
fits [] (b ∷ bs) = false
fits (p ∷ ps) [] = p == 42 && fits ps []
fits (p ∷ ps) (b ∷ bs) = if p == 42 then fits ps (b ∷ bs) || fits (p ∷ ps) bs else p == b && fits ps bs
