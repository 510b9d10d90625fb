-- Refinement: only contracts inside the crate use it.
-- The form of a decimal text, as the program tests it.
use Rattle.std.specs.Prelude.{ℕ, List, Bool, not, ◌&&◌, ◌||◌, ◌==◌, length, slice_index}
use Rattle.std.specs.Str.{all_ascii_digits}

-- digits, at least one, and no zero before others
abbrev pub is_canonical : List ℕ → Bool
is_canonical text = all_ascii_digits text && not (length text == 0) && (not (slice_index text 0 == 48) || length text == 1)
