-- Statement: contracts of public calls use it.
-- What worlds keep whose events were all accepted.
use Rattle.std.specs.Prelude.{◌≡◌, ℕ, List, Some}
use Rattle.std.specs.List.{filter}
use Rattle.place_core.specs.Placement.{IsActingSet, numbers_of}
use Rattle.object_core.specs.declared.op.Op.{Op}
use Rattle.map_core.specs.Map.{map_of}
use Rattle.map_core.specs.Intervals.{set_of}
use Rattle.store_core.specs.declared.sealed.GroupId.{GroupId}
use Rattle.group_model.specs.Within.{IsReachedWithin}
use Rattle.group_model.specs.Group.{Group, last_set}
use Rattle.world_events.specs.declared.event.Ask.{Ask}
use Rattle.world_events.specs.declared.event.Event.TheVariants.{Submit, List as ListNames}
use Rattle.world_front.specs.ControlPlane.{front_refusal}
use Rattle.world_core.specs.World.{World, group_at, refusal_of}
use Rattle.world_front.specs.Groups.{is_for}

-- ---- requests

-- each group's requests are the submissions for it, in their order
abbrev pub HasRequests : World → Type 0
HasRequests w = (id : GroupId) (g : Group) → group_at id w.groups ≡ Some g → g.requests ≡ filter (is_for id) w.front.submissions

-- no group refuses a request that the front does not: neither for its number, nor as one too many
pub record FrontTells (w : World) : Type 0 where
  pub submit : (ask : Ask) (object : List ℕ) (ops : List Op) → refusal_of w (Submit ask object ops) ≡ front_refusal w.front (Submit ask object ops)
  pub list : (ask : Ask) → refusal_of w (ListNames ask) ≡ front_refusal w.front (ListNames ask)

-- ---- intervals and acting sets

-- The group of a place: one that there can be, of as many daemons as the map has, each of whose acting sets lay within those that were up.
-- Its present set is the map's, all of it up
pub record IsServed (w : World) (id : GroupId) (g : Group) : Type 0 where
  pub within : IsReachedWithin g
  pub daemons : within.reached.daemons ≡ w.front.history.daemons
  pub up : g.up ≡ numbers_of (map_of w.front.history).up
  pub present : set_of (map_of w.front.history) id.pool id.number ≡ Some (last_set g.sets)
  pub acting : IsActingSet g.up (last_set g.sets)
