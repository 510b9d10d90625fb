-- Statement: contracts of public calls use it.
-- The sets of the intervals, and which of them were heard.
use Rattle.std.specs.Prelude.{ℕ, ◌+◌, ◌-◌, Bool, true, false, ◌==◌, ◌&&◌, ◌||◌, nat_lt, List, [], ◌∷◌, length, slice_index_or}
use Rattle.std.specs.List.{list_any}

abbrev pub daemons : List ℕ
daemons = 0 ∷ 1 ∷ 2 ∷ 3 ∷ 4 ∷ 5 ∷ 6 ∷ 7 ∷ 8 ∷ 9 ∷ 10 ∷ 11 ∷ 12 ∷ 13 ∷ 14 ∷ 15 ∷ []

-- the set of interval n, counted from 1
abbrev pub set_of : List (List ℕ) → ℕ → List ℕ
set_of sets n = slice_index_or sets (n - 1) []

abbrev pub is_primary : List ℕ → ℕ → Bool
is_primary [] d = false
is_primary (m ∷ ms) d = m == d

-- each of these intervals, of which the first is numbered so, that is at least base and has enough members has one that was heard
abbrev pub covers : ℕ → ℕ → (ℕ → Bool) → ℕ → List (List ℕ) → Bool
covers min_size base informed interval [] = true
covers min_size base informed interval (members ∷ sets) =
    (nat_lt interval base || nat_lt (length members) min_size || list_any informed members)
    && covers min_size base informed (interval + 1) sets
