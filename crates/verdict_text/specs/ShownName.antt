-- Statement: contracts of public calls use it.
-- How names are shown in lines (this project's profile).
use Rattle.std.specs.Prelude.{ℕ, Bool, List, [], ◌∷◌, ◌++◌, ◌==◌, ◌&&◌, not, codes, length, flat_map, nat_le, if◌then◌else◌}
use Rattle.std.specs.List.{list_all}
use Rattle.common_types.specs.Escapes.{escape}

-- bytes 32 to 126, except " and \
abbrev pub is_quotable : ℕ → Bool
is_quotable b = (nat_le 32 b && nat_le b 126) && (not (b == 34) && not (b == 92))

-- neither a blank nor a comma, too
abbrev pub is_bare_byte : ℕ → Bool
is_bare_byte b = is_quotable b && (not (b == 32) && not (b == 44))

abbrev pub is_bare : List ℕ → Bool
is_bare name = not (length name == 0) && list_all is_bare_byte name

-- a byte between quotes; one that is not shown as it is has its number
abbrev pub quoted_name_byte : ℕ → List ℕ
quoted_name_byte b = if is_quotable b then b ∷ [] else escape b

-- a name as it is, or between quotes
abbrev pub shown_name : List ℕ → List ℕ
shown_name name = if is_bare name then name else codes "\"" ++ (flat_map quoted_name_byte name ++ codes "\"")
