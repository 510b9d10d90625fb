-- Refinement: only contracts inside the crate use it.
-- The lines of a table.
use Rattle.std.specs.Prelude.{ℕ, ◌-◌, ◌/◌, ◌%◌, List, ◌++◌, codes, length, replicate}
use Rattle.std.specs.Fmt.{decimal}

-- a number of tenths, with its point
abbrev pub tenths_text : ℕ → List ℕ
tenths_text n = decimal (n / 10) ++ (codes "." ++ decimal (n % 10))

-- `n` spaces
abbrev pub blanks : ℕ → List ℕ
blanks n = replicate n 32

-- a name, filled up behind it to 48 bytes
abbrev pub name_column : List ℕ → List ℕ
name_column name = name ++ blanks (48 - length name)

-- a text, filled up before it to 12 bytes
abbrev pub number_column : List ℕ → List ℕ
number_column text = blanks (12 - length text) ++ text

-- a name, and two times in tenths of a nanosecond
abbrev pub line_text : List ℕ → ℕ → ℕ → List ℕ
line_text name least middle =
    name_column name ++ (number_column (tenths_text least) ++ (number_column (tenths_text middle) ++ codes "\n"))
