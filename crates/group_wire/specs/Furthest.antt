-- Statement: contracts of public calls use it.
-- The copy that is furthest on: its log begins with all that was decided.
use Rattle.std.specs.Prelude.{List, [], ◌∷◌, map}
use Rattle.store_core.specs.declared.entry.Entry.{Entry}
use Rattle.group_model_whole.specs.Types.{PeerInfo}
use Rattle.group_model_whole.specs.Choice.{best}
use Rattle.group_model.specs.Types.{Copy}

-- what a copy that sent its whole log would tell
abbrev pub whole_offer : Copy → PeerInfo
whole_offer c = record { number = c.number; base = c.base; log = c.log }

-- the log of the copy of the greatest base, and of these the longest
abbrev pub furthest : List Copy → List Entry
furthest [] = []
furthest (c ∷ cs) = (best (whole_offer c) (map whole_offer cs)).log
