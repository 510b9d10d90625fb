-- Refinement: only contracts inside the crate use it.
-- Events on the messages of groups, as the program does them.
use Rattle.std.specs.Prelude.{◌≡◌, ℕ, List, None}
use Rattle.map_core.specs.State.{History}
use Rattle.map_core.specs.Refusal.{acting_refusal}
use Rattle.store_core.specs.declared.sealed.GroupId.{GroupId}
use Rattle.world_events.specs.declared.event.Event.{Event}
use Rattle.world_events.specs.declared.event.Event.TheVariants.{Deliver, Lose}
use Rattle.world_core.specs.World.{World}
use Rattle.world_script.specs.Script.{on_each, emptied, places}
use Rattle.world_script.specs.declared.groups.Sweep.{Sweep}
use Rattle.world_script.specs.declared.groups.Sweep.TheVariants as sweeps

-- what is done to a message of a group
abbrev pub event_at : Sweep → GroupId → ℕ → Event
event_at sweeps.Deliver id place = Deliver id place
event_at sweeps.Lose id place = Lose id place

abbrev pub sweep_events : Sweep → World → List Event
sweep_events sweep w = on_each (emptied (event_at sweep)) (places w.front) w

-- the map has the group
abbrev pub IsThere : History → GroupId → Type 0
IsThere history id = acting_refusal history id.pool id.number ≡ None
