-- Statement: contracts of public calls use it.
-- Texts in a caller's buffer.
use Rattle.std.specs.Prelude.{ℕ, List, ◌++◌, length, take, drop}

-- what a buffer holds after a text is written to it: as much of the text as fits, and behind it what it held before
abbrev pub filled : List ℕ → List ℕ → List ℕ
filled text old = take (length old) text ++ drop (length text) old
