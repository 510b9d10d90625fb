-- Statement: contracts of public calls use it.
-- The bytes of words (this project's profile of what a capability text may leave unquoted).
use Rattle.std.specs.Prelude.{ℕ, Bool, ◌||◌, ◌&&◌, ◌==◌, nat_le}

-- a small letter, a capital, one of - . / 0 to 9, or _
abbrev pub is_word_byte : ℕ → Bool
is_word_byte b =
    (nat_le 97 b && nat_le b 122) || ((nat_le 65 b && nat_le b 90) || ((nat_le 45 b && nat_le b 57) || b == 95))
