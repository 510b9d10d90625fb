-- Statement: contracts of public calls use it.
-- What a cluster began with, what a pass makes on its groups, and what a pass is.
use Rattle.std.specs.Prelude.{◌≡◌, ℕ, ◌<◌, ◌≤◌, true, List, [], ◌∷◌, Some, slice_get}
use Rattle.left_right.specs.Sides.{view as known}
use Rattle.map_core.specs.State.{History, GoesOn}
use Rattle.entry_core.specs.Locality.{group_for}
use Rattle.store_core.specs.Request.{Sealed}
use Rattle.store_core.specs.declared.sealed.GroupId.{GroupId}
use Rattle.group_model_whole.specs.Each.{Each}
use Rattle.group_model.specs.Group.{Group, Event, Submit, Deliver, Lose, Repeat, NewInterval, Restart, Kick, is_submitted}
use Rattle.world_front.specs.ControlPlane.{id_of}
use Rattle.world_core.specs.World.{World}
use Rattle.world_core.specs.Sound.{IsSealedFor, IsSound}
use Rattle.cluster.specs.declared.cluster.Cluster.{Cluster}
use Rattle.cluster.specs.declared.cluster.Seats.{Seats}
use Rattle.cluster.specs.declared.pass.OwnSession.{OwnSession}
use Rattle.cluster.specs.declared.pass.Pass.{Pass}
use Rattle.published_map.specs.declared.published.Knowledge.{Knowledge}
use Rattle.cluster.specs.Sessions.{next_of, IsNumbered}
use Rattle.cluster.specs.Passes.{ArePassOf, HaveTheirOwn, firsts_of}
use Rattle.published_map.specs.Published.{Covers}
use Rattle.cluster.specs.GroupMoves.{happened_at}

-- The cluster began with the users, the map and the groups of a world that holds, in which nothing was asked and no session opened
pub record IsBegun (c : Cluster) : Type 0 where
  pub world : World
  pub sound : IsSound world
  pub unasked : world.front.submissions ≡ []
  pub map_is : world.front.history ≡ c.start
  pub groups : firsts_of c ≡ world.groups
  pub users : c.users.first.db ≡ world.front.database
  pub sessions : c.users.first.sessions ≡ 0

-- the requests among events
abbrev pub asked_of : List Event → List Sealed
asked_of [] = []
asked_of (Submit s ∷ es) = s ∷ asked_of es
asked_of (Deliver k ∷ es) = asked_of es
asked_of (Lose k ∷ es) = asked_of es
asked_of (Repeat k ∷ es) = asked_of es
asked_of (NewInterval acting up ∷ es) = asked_of es
asked_of (Restart daemon ∷ es) = asked_of es
asked_of (Kick ∷ es) = asked_of es

-- an event that a pass makes on a group: a request for it, sealed by a pool of the start under an id that one of its sessions gave, or a delivery of message 0
abbrev pub IsOwnEvent : History → List OwnSession → GroupId → Event → Type 0
IsOwnEvent start own id (Submit s) = IsSealedFor start s × (group_for s ≡ id) × IsNumbered own s.id
IsOwnEvent start own id (Deliver k) = k ≡ 0
IsOwnEvent start own id (Lose k) = ⊥
IsOwnEvent start own id (Repeat k) = ⊥
IsOwnEvent start own id (NewInterval acting up) = ⊥
IsOwnEvent start own id (Restart daemon) = ⊥
IsOwnEvent start own id Kick = ⊥

-- a request of this id stands among those that the seat j made
abbrev pub IsAskedAt : Seats → ℕ → ℕ → Type 0
IsAskedAt seats j id = is_submitted (asked_of (happened_at seats j)) id ≡ true

-- What a pass made on groups are such events, and each id that its sessions gave stands in one group
pub record Asks (c : Cluster) (own : List OwnSession) (seats : Seats) : Type 0 where
  pub events : (j : ℕ) (g : Group) → slice_get (firsts_of c) j ≡ Some g → Each (IsOwnEvent c.start own g.group) (happened_at seats j)
  pub each : (session number : ℕ) → 1 ≤ number → number < next_of own session → (j : ℕ) × IsAskedAt seats j (id_of session number)
  pub once : (j k id : ℕ) → IsAskedAt seats j id → IsAskedAt seats k id → j ≡ k

-- what a pass knows of the published map
abbrev pub known_by : Pass → Knowledge
known_by p = known p.reader.place

-- its seats, and the sessions that it has opened
abbrev pub seats_of : Pass → Seats
seats_of p = p.seats

abbrev pub sessions_of : Pass → List OwnSession
sessions_of p = p.sessions.items

-- A pass of a cluster that began so. It has a seat of each lock, and each seat knows all that it made. Its reader
-- knows at least the map of the start.
pub record IsPassOf (c : Cluster) (p : Pass) : Type 0 where
  pub begun : IsBegun c
  pub seats : ArePassOf c p.seats
  pub made : HaveTheirOwn p.seats
  pub since : (map : History) → Covers map (known_by p) → GoesOn map c.start
  pub asks : Asks c p.sessions.items p.seats
