-- Refinement: only contracts inside the crate use it.
-- Numbers that are the same for equal texts. In verdict_core only inner contracts use this.
use Rattle.std.specs.Prelude.{ℕ, ◌+◌, ◌-◌, ◌*◌, ◌/◌, ◌%◌, ◌^◌, List, if◌then◌else◌, nat_eq, nat_lt, nat_le, length, slice_index, slice_range}
use Rattle.std.specs.Int.{w32, w64, from_le_bytes}

-- a number made of two
unfoldable pub mix : ℕ → ℕ → ℕ
mix first second = (first * 11400714819323198485 % 2 ^ 64 + second) % 2 ^ 64

-- the first byte of a short text, the one in its middle and the last one
unfoldable pub few_bytes : List ℕ → ℕ
few_bytes text = slice_index text 0 * 65536 + slice_index text (length text / 2) * 256 + slice_index text (length text - 1)

-- the first and the last bytes of a text, as numbers
unfoldable pub half_words : List ℕ → ℕ
half_words text = mix (from_le_bytes w32 (slice_range text 0 4)) (from_le_bytes w32 (slice_range text (length text - 4) (length text)))

unfoldable pub words : List ℕ → ℕ
words text = mix (from_le_bytes w64 (slice_range text 0 8)) (from_le_bytes w64 (slice_range text (length text - 8) (length text)))

-- those of a longer text, and the eight bytes in its middle
unfoldable pub with_middle : List ℕ → ℕ
with_middle text = mix (words text) (from_le_bytes w64 (slice_range text (length text / 2 - 4) (length text / 2 + 4)))

unfoldable pub long_hash : List ℕ → ℕ
long_hash text =
    if nat_lt (length text) 8 then half_words text
    else (if nat_le (length text) 16 then words text else with_middle text)

unfoldable pub hash : List ℕ → ℕ
hash text =
    if nat_le 4 (length text) then long_hash text
    else (if nat_eq (length text) 0 then 0 else few_bytes text)

-- a number below 256
unfoldable pub folded : ℕ → ℕ → ℕ
folded first second = mix first second * 16088033396387240377 % 2 ^ 64 / 72057594037927936
