-- Refinement: only contracts inside the crate use it.
-- The least and the middle one of 15 times.
use Rattle.std.specs.Prelude.{ℕ, ◌≡◌, List, slice_index}
use Rattle.std.specs.List.Sorted.{IsPermutation, IsNonDecreasing}

-- the first and the eighth of the times in their order
abbrev pub AreLeastAndMiddle : List ℕ → ℕ → ℕ → Type 0
AreLeastAndMiddle times least middle =
    (sorted : List ℕ) × IsPermutation times sorted × IsNonDecreasing sorted × (least ≡ slice_index sorted 0) × (middle ≡ slice_index sorted 7)
