-- Statement: contracts of public calls use it.
-- The printed text of a fault: this project's profile.
use Rattle.std.specs.Prelude.{ℕ, List, ◌++◌, codes, decimal}
use Rattle.map_core.specs.Printed as map_text
use Rattle.group_messages.specs.Printed as group_text
use Rattle.world_events.specs.Printed as world_text
use Rattle.cluster.specs.declared.fault.ClusterFault.{ClusterFault}
use Rattle.cluster.specs.declared.fault.ClusterFault.TheVariants as faults
use Rattle.cluster.specs.declared.closing.CloseFault.{CloseFault}
use Rattle.cluster.specs.declared.closing.CloseFault.TheVariants as closing
use Rattle.cluster.specs.declared.monitor.ChangeFault.{ChangeFault}
use Rattle.cluster.specs.declared.monitor.ChangeFault.TheVariants as changing
use Rattle.cluster.specs.declared.monitor.TellFault.{TellFault}
use Rattle.cluster.specs.declared.monitor.TellFault.TheVariants as telling

-- a change of the map that is unfinished at this group, or, at the number of groups, at its publication
abbrev pub unfinished_text : ℕ → List ℕ
unfinished_text at = codes "K1 Unfinished " ++ decimal at

-- a fault's number, its name, and what it carries; those of lower layers print themselves
abbrev pub fault_text : ClusterFault → List ℕ
fault_text (faults.World fault) = world_text.fault_text fault
fault_text (faults.Unfinished at) = unfinished_text at
fault_text faults.NoThread = codes "K2 NoThread"
fault_text faults.OutOfMemory = codes "K3 OutOfMemory"
fault_text faults.NoReader = codes "K4 NoReader"

abbrev pub change_text : ChangeFault → List ℕ
change_text (changing.Map fault) = map_text.fault_text fault
change_text (changing.Group fault) = group_text.fault_text fault
change_text (changing.Unfinished at) = unfinished_text at

abbrev pub tell_text : TellFault → List ℕ
tell_text (telling.Unfinished at) = unfinished_text at
tell_text telling.NoReader = codes "K4 NoReader"

abbrev pub close_text : CloseFault → List ℕ
close_text closing.MissingPass = codes "L1 MissingPass"
close_text closing.Unfinished = codes "L2 Unfinished"
close_text closing.OutOfMemory = codes "L3 OutOfMemory"
