-- Statement: contracts of public calls use it.
-- When a call on the world is refused.
use Rattle.std.specs.Prelude.{◌≡◌, ◌⊎◌, Option, None, Some, Result, Ok, Err}
use Rattle.map_core.specs.declared.fault.MapFault.{MapFault}
use Rattle.map_core.specs.declared.fault.MapFault.TheVariants as map_fault
use Rattle.world_front.specs.Event.{Fault, NoPool, OutOfMemory}

-- accepted only where there is no refusal; a fault is that refusal, or out of memory
abbrev pub RefusedOrMemory : {T : Type 0} → Option Fault → Result T Fault → Type 0
RefusedOrMemory refusal (Ok x) = refusal ≡ None
RefusedOrMemory refusal (Err fault) = (fault ≡ OutOfMemory) ⊎ (refusal ≡ Some fault)

-- a fault of a view: there was no such pool, whatever the name or the epoch
abbrev pub fault_of_view : MapFault → Fault
fault_of_view map_fault.OutOfMemory = OutOfMemory
fault_of_view fault = NoPool
