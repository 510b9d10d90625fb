-- Refinement: only contracts inside the crate use it.
-- The copy that is furthest on: its log begins with all that was decided.
use Rattle.std.specs.Prelude.{List, [], ◌∷◌, map}
use Rattle.store_core.specs.declared.entry.Entry.{Entry}
use Rattle.group_model_whole.specs.Choice.{best, own_offer}
use Rattle.group_model_whole.specs.Types.{Daemon}

-- the log of the copy of the greatest base, and of these the longest
abbrev pub furthest : List Daemon → List Entry
furthest [] = []
furthest (c ∷ cs) = (best (own_offer c) (map own_offer cs)).log
