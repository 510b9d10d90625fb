-- Statement: contracts of public calls use it.
-- Which entries of a copy's log are decided, and one entry more.
use Rattle.std.specs.Prelude.{List, [], ◌∷◌, ◌++◌}
use Rattle.entry_core.specs.Log.{decide}
pub use Rattle.group_messages.specs.Decided.{not_in_flight, last}
use Rattle.group_model_whole.specs.Types.{Sealed, Entry, Role, Idle, Peering, Installing, Active, Daemon}

-- what a copy shows to be decided: all of an active copy's log but what is in flight
abbrev pub decided_by : Role → List Entry → List Entry
decided_by (Active flight) log = not_in_flight log flight
decided_by Idle log = []
decided_by (Peering informed) log = []
decided_by (Installing done) log = []

-- a copy with one more entry, which it decides itself
abbrev pub with_entry : Daemon → Sealed → Daemon
with_entry c s = record c { log = c.log ++ decide c.log s ∷ [] }
