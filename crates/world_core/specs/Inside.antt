-- Statement: contracts of public calls use it.
-- What the fields of a world stand for.
use Rattle.std.specs.Prelude.{◌-◌, List, take, drop, slice_get}
use Rattle.std.specs.List.{flat_map}
use Rattle.store_core.specs.declared.entry.Entry.{Entry}
use Rattle.group_model.specs.Group.{Group}
use Rattle.world_front.specs.ControlPlane.{ControlPlane}
use Rattle.world_core.specs.World.{World}
use Rattle.world_core.specs.Standing.{audit_in}
use Rattle.world_core.specs.declared.audit.Run.{Run}

-- the entries of a run, by where its group stands
abbrev pub run_entries : List Group → Run → List Entry
run_entries groups run = take (run.upto - run.from) (drop run.from (audit_in (slice_get groups run.group)))

-- the entries of all runs
abbrev pub entries_told : List Group → List Run → List Entry
entries_told groups runs = flat_map (run_entries groups) runs

abbrev pub world_of : ControlPlane → List Group → List Run → World
world_of front groups runs = record { front = front; groups = groups; audit = entries_told groups runs }
