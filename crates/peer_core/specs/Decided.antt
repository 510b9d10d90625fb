-- Statement: contracts of public calls use it.
-- Which entries of a copy's log are decided, and one entry more.
use Rattle.std.specs.Prelude.{List, [], ◌∷◌, ◌++◌}
use Rattle.store_core.specs.Request.{Sealed}
use Rattle.entry_core.specs.Log.{decide}
use Rattle.store_core.specs.declared.entry.Entry.{Entry}
use Rattle.group_messages.specs.Decided.{not_in_flight}
use Rattle.peer_core.specs.Types.{Role, Idle, Peering, Installing, Active, Copy}

-- a copy with one more entry, which it decides itself
abbrev pub with_entry : Copy → Sealed → Copy
with_entry c s = record c { log = c.log ++ decide c.log s ∷ [] }

-- what a copy shows to be decided: all of an active copy's log but what is in flight
abbrev pub decided_by : Role → List Entry → List Entry
decided_by (Active flight) log = not_in_flight log flight
decided_by Idle log = []
decided_by (Peering informed) log = []
decided_by (Installing done common) log = []
