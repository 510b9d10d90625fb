-- Statement: contracts of public calls use it.
-- What a pass leaves that only delivered messages, and what a worker's fault tells.
use Rattle.std.specs.Prelude.{◌≡◌, ◌⊎◌, ℕ, zero, suc, ◌<◌, ◌≤◌, List, [], ◌∷◌, ◌++◌, Option, Some, None, Result, Ok, Err, All}
use Rattle.std.specs.Option.{option_or}
use Rattle.group_model.specs.Group.{Event, Deliver}
use Rattle.group_messages.specs.declared.fault.GroupFault.TheVariants.{Unreachable}
use Rattle.world_events.specs.declared.fault.WorldFault.TheVariants.{Group as OfGroup}
use Rattle.cluster.specs.declared.cluster.Cluster.{Cluster}
use Rattle.cluster.specs.declared.fault.ClusterFault.{ClusterFault}
use Rattle.cluster.specs.declared.fault.ClusterFault.TheVariants as faults
use Rattle.cluster_locks.specs.declared.groups.Worked.{Worked}
use Rattle.cluster.specs.declared.pass.Pass.{Pass}
use Rattle.cluster.specs.declared.workers.Worker.{Worker}
use Rattle.cluster.specs.GroupMoves.{happened_at, Goes}
use Rattle.cluster.specs.Passes.{group_count}
use Rattle.cluster.specs.Asks.{IsPassOf}
use Rattle.cluster.specs.Deliveries.{WorksAt}

-- `n` deliveries of message 0
abbrev pub deliveries : ℕ → List Event
deliveries zero = []
deliveries (suc n) = Deliver 0 ∷ deliveries n

-- Its own new events are deliveries of message 0, at most `most` on each group. It has seen at least what it had
-- seen.
pub record HasWorked (most : ℕ) (old new : Pass) : Type 0 where
  pub made : (k : ℕ) → (n : ℕ) × (n ≤ most) × (happened_at new.seats k ≡ happened_at old.seats k ++ deliveries n)
  pub goes : Goes old.seats new.seats
  pub reader : new.reader ≡ old.reader
  pub sessions : new.sessions ≡ old.sessions

-- ---- faults

-- a fault that a worker passes over: the message was to a daemon that is down, and is dropped
abbrev pub IsPassedOver : ClusterFault → Type 0
IsPassedOver fault = fault ≡ faults.World (OfGroup Unreachable)

-- what a turn told after which a worker goes on
abbrev pub GoesOnAfter : Result Worked ClusterFault → Type 0
GoesOnAfter (Ok worked) = Unit {0}
GoesOnAfter (Err fault) = IsPassedOver fault

-- message 0 of each group before this place was delivered, in order, each by one turn after which the worker goes on
abbrev pub HasDelivered : Cluster → ℕ → Pass → Pass → Type 0
HasDelivered c zero old new = new ≡ old
HasDelivered c (suc place) old new = (mid : Pass) × (told : Result Worked ClusterFault) × HasDelivered c place old mid × WorksAt c place mid new told × GoesOnAfter told

-- this number of rounds was done, in each of which every group had one delivery
abbrev pub HasDone : Cluster → ℕ → Pass → Pass → Type 0
HasDone c zero old new = new ≡ old
HasDone c (suc round) old new = (mid : Pass) × HasDone c round old mid × HasDelivered c (group_count c) mid new

-- a round ended at a delivery that told this fault: the groups before it had theirs
abbrev pub IsCutShortBy : Cluster → ClusterFault → Pass → Pass → Type 0
IsCutShortBy c fault old new = (place : ℕ) × (place < group_count c) × (mid : Pass) × HasDelivered c place old mid × WorksAt c place mid new (Err fault) × (IsPassedOver fault → ⊥)

-- How a worker ended, which the gate may refuse these rounds. Without a fault it has done all its rounds,
-- or those before one that the gate refused. With a fault it has done the rounds before the one in which a delivery
-- reported it
abbrev pub EndsBy : Cluster → (ℕ → Type 0) → (rounds : ℕ) → Option ClusterFault → Pass → Pass → Type 0
EndsBy c refuses rounds None old new = (done : ℕ) × HasDone c done old new × ((done ≡ rounds) ⊎ ((done < rounds) × refuses done))
EndsBy c refuses rounds (Some fault) old new = (done : ℕ) × (done < rounds) × (mid : Pass) × HasDone c done old mid × IsCutShortBy c fault mid new

-- how workers ended, by their numbers from 0 on, each of which the gate may refuse some rounds
abbrev pub HaveEnded : Cluster → (ℕ → ℕ → Type 0) → (rounds : ℕ) → (old new : List Pass) → List (Option ClusterFault) → Type 0
HaveEnded c refuses rounds [] [] [] = Unit {0}
HaveEnded c refuses rounds (p ∷ ps) (q ∷ qs) (f ∷ fs) = EndsBy c (refuses 0) rounds f p q × HaveEnded c (λ number. refuses (suc number)) rounds ps qs fs
HaveEnded c refuses rounds _ _ _ = ⊥

-- the first fault of some workers, by number
abbrev pub first_fault : List (Option ClusterFault) → Option ClusterFault
first_fault [] = None
first_fault (fault ∷ later) = option_or fault (first_fault later)

-- out of memory before any round; or each worker ended so, and the fault is the first one of a worker, by number
abbrev pub TellsFault : Cluster → (refuses : ℕ → ℕ → Type 0) → (rounds : ℕ) → (old new : List Pass) → Option ClusterFault → Type 0
TellsFault c refuses rounds old new fault =
    ((fault ≡ Some faults.OutOfMemory) × (new ≡ old))
    ⊎ ((all : List (Option ClusterFault)) × HaveEnded c refuses rounds old new all × (fault ≡ first_fault all))

-- ---- workers

abbrev pub pass_of : Worker → Pass
pass_of w = w.pass

abbrev pub fault_of : Worker → Option ClusterFault
fault_of w = w.fault

abbrev pub AreAtWork : Cluster → List Worker → Type 0
AreAtWork c workers = All (λ w. IsPassOf c w.pass) workers

abbrev pub HasWorkedOf : Cluster → (refuses : ℕ → Type 0) → (rounds : ℕ) → Worker → Worker → Type 0
HasWorkedOf c refuses rounds old new = IsPassOf c new.pass × HasWorked rounds old.pass new.pass × EndsBy c refuses rounds new.fault old.pass new.pass
