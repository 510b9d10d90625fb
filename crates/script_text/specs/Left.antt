-- Refinement: only contracts inside the crate use it.
-- The words that are left of a text that can be cut into words.
use Rattle.std.specs.Prelude.{ℕ, List, []}
use Rattle.std.specs.Option.{unwrap_or}
use Rattle.script_text.specs.Words.{words_from, Between}

abbrev pub words_left : List ℕ → List (List ℕ)
words_left rest = unwrap_or (words_from Between rest) []
