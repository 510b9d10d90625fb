-- Statement: contracts of public calls use it.
-- The numbers of a script: this project's profile.
use Rattle.std.specs.Prelude.{ℕ, List, Bool, ◌&&◌, if◌then◌else◌, ◌==◌, nat_lt, nat_le, Option, None, Some, length}
use Rattle.std.specs.List.{list_any, before_first, after_first}
use Rattle.std.specs.Str.{all_ascii_digits}
use Rattle.std.specs.Str.Parse.{digits_value}

-- 1 to 10 decimal digits, at most 4,294,967,295
abbrev pub is_number : List ℕ → Bool
is_number word = nat_lt 0 (length word) && nat_le (length word) 10 && all_ascii_digits word && nat_le (digits_value 10 word) 4294967295

abbrev pub number_of : List ℕ → Option ℕ
number_of word = if is_number word then Some (digits_value 10 word) else None

abbrev pub is_dot : ℕ → Bool
is_dot b = b == 46

abbrev pub both : Option ℕ → Option ℕ → Option (ℕ × ℕ)
both (Some a) (Some b) = Some (a, b)
both (Some a) None = None
both None b = None

-- two numbers with a dot between them
abbrev pub pair_of : List ℕ → Option (ℕ × ℕ)
pair_of word = if list_any is_dot word then both (number_of (before_first is_dot word)) (number_of (after_first is_dot word)) else None
