-- Statement: contracts of public calls use it.
-- A world that is put together of parts.
use Rattle.std.specs.Prelude.{◌≤◌, List, length, []}
use Rattle.std.specs.List.{flat_map}
use Rattle.store_core.specs.Request.{Sealed}
use Rattle.store_core.specs.declared.entry.Entry.{Entry}
use Rattle.group_model.specs.Group.{Group}
use Rattle.world_front.specs.ControlPlane.{ControlPlane}
use Rattle.world_core.specs.World.{World}
use Rattle.world_core.specs.Sound.{IsSound}
use Rattle.world_core.specs.declared.world.parts.WorldParts.{WorldParts}

-- the requests of groups, group by group
abbrev pub requests_of : List Group → List Sealed
requests_of groups = flat_map (λ g. g.requests) groups

-- what was decided in groups, group by group
abbrev pub decided_of : List Group → List Entry
decided_of groups = flat_map (λ g. g.audit) groups

abbrev pub front_of : WorldParts → ControlPlane
front_of p = record { database = p.users; history = p.map; sessions = p.sessions.items; submissions = requests_of p.groups.items; lists = [] }

abbrev pub put_together : WorldParts → World
put_together p = record { front = front_of p; groups = p.groups.items; audit = decided_of p.groups.items }

-- The parts are of one world: what holds of every world holds of the one that they make, and there are no more requests than a
-- world has.
pub record FitTogether (p : WorldParts) : Type 0 where
  pub sound : IsSound (put_together p)
  pub few : length (requests_of p.groups.items) ≤ 67108928
