-- Refinement: only contracts inside the crate use it.
-- What a call takes of the words in front.
use Rattle.std.specs.Prelude.{◌≡◌, List, Option, None, Some}
use Rattle.world_script.specs.Command.{Word, Reads}

-- it answers what these words say, and leaves the words behind them
abbrev pub Takes : {A : Type 0} → Reads A → (old new : List Word) → Option A → Type 0
Takes reads old new None = reads old ≡ None
Takes reads old new (Some x) = reads old ≡ Some (x, new)
