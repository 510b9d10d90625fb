-- Refinement: only contracts inside the crate use it.
-- The log that an interval begins with, while the copy's log is not yet fitted to it.
use Rattle.std.specs.Prelude.{List, take}
use Rattle.entry_core.specs.Fitting.{decided_behind}
use Rattle.store_core.specs.declared.entry.Entry.{Entry}
use Rattle.peer_core.specs.declared.fitting.Fitting.{Fitting}

-- the entries that stay, and the requests behind them as they will be decided
unfoldable pub becomes : Fitting → List Entry
becomes f = decided_behind (take f.kept f.log.now) f.rest.now
