-- Refinement: only contracts inside the crate use it.
-- Names of objects as Ceph 16.2.15 logs them (source: the printed form of its hobject_t).
use Rattle.std.specs.Prelude.{ℕ, List, [], ◌∷◌, Bool, ◌==◌, ◌&&◌, ◌/◌, ◌%◌, not, nat_le, length, flat_map, if◌then◌else◌}
use Rattle.common_types.specs.Escapes.{hex_digit}

-- a printed byte of ASCII, except a percent sign, a colon and a slash
abbrev pub is_plain : ℕ → Bool
is_plain byte = nat_le 32 byte && nat_le byte 126 && not (byte == 37) && not (byte == 58) && not (byte == 47)

-- a byte by its number
abbrev pub numbered : ℕ → List ℕ
numbered byte = 37 ∷ hex_digit (byte / 16) ∷ hex_digit (byte % 16) ∷ []

abbrev pub escaped_byte : ℕ → List ℕ
escaped_byte byte = if is_plain byte then byte ∷ [] else numbered byte

abbrev pub escaped : List ℕ → List ℕ
escaped name = flat_map escaped_byte name

-- capabilities look at the locator if one is given, and else at the name
abbrev pub seen_name : List ℕ → List ℕ → List ℕ
seen_name key name = if length key == 0 then name else key
