-- Statement: contracts of public calls use it.
-- What holds of every sound world: of one that events made, and of one that is put together of the parts of a closed cluster.
use Rattle.std.specs.Prelude.{◌≡◌, ◌≤◌, ℕ, List, true, Some, length, replicate}
use Rattle.store_core.specs.declared.sealed.GroupId.{GroupId}
use Rattle.group_model.specs.Group.{Group, kick}
use Rattle.group_model.specs.Budget.{budget}
use Rattle.group_model.specs.Recovery.{is_ready}
use Rattle.group_model.specs.Recovering.{lost_all}
use Rattle.world_core.specs.World.{World, group_at}
use Rattle.world_core.specs.Sound.{IsSound}
use Rattle.world_core.specs.Accepted.{IsServed}
use Rattle.world_core.specs.Parts.{FitTogether, put_together}
use Rattle.world_core.specs.declared.world.parts.WorldParts.{WorldParts}
use Rattle.world_laws.specs.Places.{HasPlaces, IsFoundByPlace}
use Rattle.world_laws.specs.Recovery.{deliveries_left, recovery, LosesAll, AnswersAll}

-- the world of parts that fit together is sound
abbrev pub PartsMakeSoundWorlds : Type 0
PartsMakeSoundWorlds = (p : WorldParts) → FitTogether p → IsSound (put_together p)

-- the groups are those of the map's places, in their order
abbrev pub EveryPlaceHasItsGroup : Type 0
EveryPlaceHasItsGroup = (w : World) → IsSound w → HasPlaces w

-- a group is found just where the map has its place, and just where the front does not refuse it
abbrev pub GroupsAreFoundByPlace : Type 0
GroupsAreFoundByPlace = (w : World) (id : GroupId) → IsSound w → IsFoundByPlace w id

-- each group is one that there can be, whose last set is the map's present one
abbrev pub GroupsAreServed : Type 0
GroupsAreServed = (w : World) (id : GroupId) (g : Group) → IsSound w → group_at id w.groups ≡ Some g → IsServed w id g

-- a group that is ready recovers, whichever way its messages are lost, in at most as many deliveries as its budget
abbrev pub KickRecovers : Type 0
KickRecovers = (w : World) (id : GroupId) (g : Group) (places : List ℕ) → IsSound w → group_at id w.groups ≡ Some g → is_ready g ≡ true → LosesAll w id places
    → AnswersAll w id (recovery id places (deliveries_left (kick (lost_all g)))) × (deliveries_left (kick (lost_all g)) ≤ budget (kick (lost_all g)))

-- message 0, lost as often as there are messages, is one way
abbrev pub LossesLoseAll : Type 0
LossesLoseAll = (w : World) (id : GroupId) (g : Group) → IsSound w → group_at id w.groups ≡ Some g → LosesAll w id (replicate (length g.wire) 0)
