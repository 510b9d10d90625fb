-- Statement: contracts of public calls use it.
-- Decimal numbers as counters keep them: this project's profile.
use Rattle.std.specs.Prelude.{ℕ, ◌^◌, List, ◌&&◌, if◌then◌else◌, Option, None, Some, nat_lt}
use Rattle.std.specs.Fmt.{decimal}
use Rattle.std.specs.Str.{bytes_eq}
use Rattle.std.specs.Str.Parse.{digits_value}

-- the number that a text spells: the text is how the number is written in decimal, and the number is at most
-- 18446744073709551615
unfoldable pub number_of : List ℕ → Option ℕ
number_of text = if nat_lt (digits_value 10 text) (2 ^ 64) && bytes_eq (decimal (digits_value 10 text)) text then Some (digits_value 10 text) else None
