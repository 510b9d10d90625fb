-- Statement: contracts of public calls use it.
-- What a pass does to a group by one turn: a delivery, or a look for an answer.
use Rattle.std.specs.Prelude.{◌≡◌, ℕ, Option, Result, Ok, Err}
use Rattle.store_core.specs.declared.reply.Reply.{Reply}
use Rattle.store_core.specs.declared.sealed.GroupId.{GroupId}
use Rattle.group_model.specs.Group.{Group}
use Rattle.group_messages.specs.declared.fault.GroupFault.{GroupFault}
use Rattle.group_messages.specs.declared.fault.GroupFault.TheVariants as group_fault
use Rattle.world_events.specs.declared.fault.WorldFault.TheVariants.{NoRequest, Group as OfGroup}
use Rattle.world_core.specs.Moves.{IsAt}
use Rattle.cluster_locks.specs.declared.groups.GroupEntry.{GroupEntry}
use Rattle.cluster_locks.specs.declared.groups.Worked.{Worked}
use Rattle.cluster_locks.specs.declared.groups.AnswerFault.{AnswerFault}
use Rattle.cluster_locks.specs.declared.groups.AnswerFault.TheVariants as answer_fault
use Rattle.cluster.specs.declared.fault.ClusterFault.{ClusterFault}
use Rattle.cluster.specs.declared.fault.ClusterFault.TheVariants as faults
use Rattle.cluster.specs.declared.cluster.Cluster.{Cluster}
use Rattle.cluster.specs.declared.pass.Pass.{Pass}
use Rattle.cluster_locks.specs.Groups.{work_entry, WorkTells, answer_entry, AnswerTells}
use Rattle.cluster.specs.Passes.{GroupTurn, firsts_of}

-- ---- faults

-- the cluster's fault for a fault of a group; out of memory is the cluster's own
abbrev pub fault_of_group : GroupFault → ClusterFault
fault_of_group group_fault.OutOfMemory = faults.OutOfMemory
fault_of_group fault = faults.World (OfGroup fault)

-- why no answer is looked for
abbrev pub fault_of_answer : AnswerFault → ClusterFault
fault_of_answer answer_fault.NoRequest = faults.World NoRequest
fault_of_answer answer_fault.OutOfMemory = faults.OutOfMemory

-- what a turn answered, with its fault as the cluster has it
abbrev pub told_as : {T F : Type 0} → (F → ClusterFault) → Result T F → Result T ClusterFault
told_as fault (Ok x) = Ok x
told_as fault (Err f) = Err (fault f)

-- ---- turns

-- one turn on the group at a place; reader and sessions stay
pub record TurnsOn {Step A : Type 0} (entry : Step → Group → A → GroupEntry) (tells : Step → Group → A → Type 0) (c : Cluster) (place : ℕ) (step : Step) (answer : A) (old new : Pass) : Type 0 where
  pub turn : GroupTurn entry tells c old.seats new.seats place step answer
  pub reader : new.reader ≡ old.reader
  pub sessions : new.sessions ≡ old.sessions

-- a delivery of message 0, by one turn
pub record WorksAt (c : Cluster) (place : ℕ) (old new : Pass) (answer : Result Worked ClusterFault) : Type 0 where
  pub told : Result Worked GroupFault
  pub turns : TurnsOn work_entry WorkTells c place (record {}) told old new
  pub is : answer ≡ told_as fault_of_group told

-- a look for the reply to a request, by one turn
pub record LooksAt (c : Cluster) (place id : ℕ) (old new : Pass) (answer : Result (Option Reply) ClusterFault) : Type 0 where
  pub told : Result (Option Reply) AnswerFault
  pub turns : TurnsOn answer_entry AnswerTells c place (record { 0 = id }) told old new
  pub is : answer ≡ told_as fault_of_answer told

-- the same on a group by its id
pub record WorksOn (c : Cluster) (group : GroupId) (old new : Pass) (answer : Result Worked ClusterFault) : Type 0 where
  pub place : ℕ
  pub at : IsAt (firsts_of c) group place
  pub works : WorksAt c place old new answer

pub record LooksIn (c : Cluster) (group : GroupId) (id : ℕ) (old new : Pass) (answer : Result (Option Reply) ClusterFault) : Type 0 where
  pub place : ℕ
  pub at : IsAt (firsts_of c) group place
  pub looks : LooksAt c place id old new answer
