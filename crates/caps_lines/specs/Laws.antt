-- Statement: contracts of public calls use it.
-- Lines are read back.
use Rattle.std.specs.Prelude.{ℕ, ◌≡◌, ◌==◌, not, Bool, true, List, Some}
use Rattle.std.specs.List.{list_all}
use Rattle.caps_lines.specs.Shell.{line_of, shell_words}

-- no byte is 0
abbrev pub has_no_zero : List ℕ → Bool
has_no_zero text = list_all (λ b. not (b == 0)) text

abbrev pub WordsAreReadBack : Type 0
WordsAreReadBack = (words : List (List ℕ)) → list_all has_no_zero words ≡ true → shell_words (line_of words) ≡ Some words
