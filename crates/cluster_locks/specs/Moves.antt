-- Statement: contracts of public calls use it.
-- What the monitor's turns on a group stand for.
use Rattle.std.specs.Prelude.{◌≡◌, Bool, Result}
use Rattle.group_model.specs.Group.{Group, has_all_intervals}
use Rattle.group_core.specs.Moves.{event_of}
use Rattle.group_messages.specs.declared.fault.GroupFault.{GroupFault}
use Rattle.cluster_locks.specs.declared.groups.GroupEntry.{GroupEntry}
use Rattle.cluster_locks.specs.declared.groups.GroupEntry.TheVariants.{Looked}
use Rattle.cluster_locks.specs.declared.moves.Move.{Move}
use Rattle.cluster_locks.specs.declared.moves.IsFull.{IsFull}
use Rattle.cluster_locks.specs.Groups.{if_accepted, AnswersFor}

-- ---- to move

abbrev pub move_entry : Move → Group → Result (Unit {0}) GroupFault → GroupEntry
move_entry s g answer = if_accepted (event_of s.0) answer

abbrev pub MoveTells : Move → Group → Result (Unit {0}) GroupFault → Type 0
MoveTells s g answer = AnswersFor g (event_of s.0) answer

-- ---- to look whether a group has all its intervals

abbrev pub full_entry : IsFull → Group → Bool → GroupEntry
full_entry s g answer = Looked

abbrev pub FullTells : IsFull → Group → Bool → Type 0
FullTells s g answer = answer ≡ has_all_intervals g
