-- Statement: contracts of public calls use it.
-- Bytes that come in chunks, as whole lines.
use Rattle.std.specs.Prelude.{◌≡◌, ℕ, List, [], ◌∷◌, ◌++◌, false, ◌⊎◌, ◌==◌}
use Rattle.std.specs.List.{list_any}

-- no line ends in these bytes
abbrev pub IsOneLine : List ℕ → Type 0
IsOneLine bytes = list_any (λ b. b == 10) bytes ≡ false

-- these bytes are whole lines, each with its end
abbrev pub AreWholeLines : List ℕ → Type 0
AreWholeLines bytes = (bytes ≡ []) ⊎ ((front : List ℕ) × (bytes ≡ front ++ 10 ∷ []))

-- Bytes behind those that wait make whole lines and what waits then. None is lost.
pub record TakesLines (waiting chunk lines left : List ℕ) : Type 0 where
  pub kept : waiting ++ chunk ≡ lines ++ left
  pub whole : AreWholeLines lines
  pub begun : IsOneLine waiting → IsOneLine left
