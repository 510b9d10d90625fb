-- Statement: contracts of public calls use it.
-- What the turns on a group stand for, and what their answers tell.
use Rattle.std.specs.Prelude.{◌≡◌, true, false, [], Option, Some, None, Result, Ok, Err}
use Rattle.store_core.specs.Request.{Sealed}
use Rattle.store_core.specs.declared.reply.Reply.{Reply}
use Rattle.group_model.specs.Group.{Group, Event, Submit, Deliver, Lose, Repeat, NewInterval, Restart, Kick, group_step, refusal_of, answer_of, is_submitted}
use Rattle.group_messages.specs.declared.fault.GroupFault.{GroupFault}
use Rattle.group_messages.specs.declared.fault.GroupFault.TheVariants.{NoMessage, Unreachable, Full, OutOfMemory, Doubled}
use Rattle.cluster_locks.specs.declared.groups.LockedGroup.{LockedGroup}
use Rattle.cluster_locks.specs.declared.groups.GroupEntry.{GroupEntry}
use Rattle.cluster_locks.specs.declared.groups.GroupEntry.TheVariants.{Happened, Looked, Idle}
use Rattle.cluster_locks.specs.declared.groups.Submission.{Submission}
use Rattle.cluster_locks.specs.declared.groups.Work.{Work}
use Rattle.cluster_locks.specs.declared.groups.Worked.{Worked}
use Rattle.cluster_locks.specs.declared.groups.Worked.TheVariants as worked
use Rattle.cluster_locks.specs.declared.groups.AnswerOf.{AnswerOf}
use Rattle.cluster_locks.specs.declared.groups.AnswerFault.{AnswerFault}
use Rattle.cluster_locks.specs.declared.groups.AnswerFault.TheVariants as fault

abbrev pub group_in : LockedGroup → Group
group_in p = p.group

-- the group after one more turn: an event happens by the group's rules, a look and an idle turn leave it
abbrev pub group_after : Group → GroupEntry → Group
group_after g (Happened e) = group_step g e
group_after g Looked = g
group_after g Idle = g

-- A request, a new interval and a restart were not refused where they happened. A message's way is never refused: one to a daemon that
-- is down is dropped
abbrev pub WasAccepted : Group → Event → Type 0
WasAccepted g (Submit request) = refusal_of g (Submit request) ≡ None
WasAccepted g (NewInterval acting up) = refusal_of g (NewInterval acting up) ≡ None
WasAccepted g (Restart daemon) = refusal_of g (Restart daemon) ≡ None
WasAccepted g (Deliver k) = Unit {0}
WasAccepted g (Lose k) = Unit {0}
WasAccepted g (Repeat k) = Unit {0}
WasAccepted g Kick = Unit {0}

-- an entry is one that the group before it can have
abbrev pub entry_fits : Group → GroupEntry → Type 0
entry_fits g (Happened e) = WasAccepted g e
entry_fits g Looked = Unit {0}
entry_fits g Idle = Unit {0}

-- an event that was accepted, and none where it was refused
abbrev pub if_accepted : {T F : Type 0} → Event → Result T F → GroupEntry
if_accepted e (Ok x) = Happened e
if_accepted e (Err f) = Idle

-- success and out of memory occur only where nothing refuses the event; else the answer is the first reason to refuse
abbrev pub AnswersFor : {T : Type 0} → Group → Event → Result T GroupFault → Type 0
AnswersFor g e (Ok x) = refusal_of g e ≡ None
AnswersFor g e (Err OutOfMemory) = refusal_of g e ≡ None
AnswersFor g e (Err (NoMessage k)) = refusal_of g e ≡ Some (NoMessage k)
AnswersFor g e (Err Unreachable) = refusal_of g e ≡ Some Unreachable
AnswersFor g e (Err Full) = refusal_of g e ≡ Some Full
AnswersFor g e (Err Doubled) = refusal_of g e ≡ Some Doubled

-- ---- to submit

abbrev pub submission_entry_of : Option Sealed → Result (Unit {0}) GroupFault → GroupEntry
submission_entry_of None answer = Idle
submission_entry_of (Some request) answer = if_accepted (Submit request) answer

abbrev pub submission_entry : Submission → Group → Result (Unit {0}) GroupFault → GroupEntry
submission_entry s g answer = submission_entry_of s.0 answer

abbrev pub SubmissionTellsOf : Option Sealed → Group → Result (Unit {0}) GroupFault → Type 0
SubmissionTellsOf None g answer = Unit {0}
SubmissionTellsOf (Some request) g answer = AnswersFor g (Submit request) answer

abbrev pub SubmissionTells : Submission → Group → Result (Unit {0}) GroupFault → Type 0
SubmissionTells s g answer = SubmissionTellsOf s.0 g answer

-- ---- to deliver message 0. Where its daemon is down it is dropped, and that is an event too

abbrev pub work_entry : Work → Group → Result Worked GroupFault → GroupEntry
work_entry s g (Ok worked.Delivered) = Happened (Deliver 0)
work_entry s g (Ok worked.Idle) = Idle
work_entry s g (Err Unreachable) = Happened (Deliver 0)
work_entry s g (Err (NoMessage k)) = Idle
work_entry s g (Err Full) = Idle
work_entry s g (Err OutOfMemory) = Idle
work_entry s g (Err Doubled) = Idle

-- idle exactly where no message is left
abbrev pub WorkTells : Work → Group → Result Worked GroupFault → Type 0
WorkTells s g (Ok worked.Delivered) = refusal_of g (Deliver 0) ≡ None
WorkTells s g (Ok worked.Idle) = g.wire ≡ []
WorkTells s g (Err Unreachable) = refusal_of g (Deliver 0) ≡ Some Unreachable
WorkTells s g (Err OutOfMemory) = refusal_of g (Deliver 0) ≡ None
WorkTells s g (Err (NoMessage k)) = ⊥
WorkTells s g (Err Full) = ⊥
WorkTells s g (Err Doubled) = ⊥

-- ---- to look for an answer

abbrev pub answer_entry : AnswerOf → Group → Result (Option Reply) AnswerFault → GroupEntry
answer_entry s g answer = Looked

abbrev pub AnswerTells : AnswerOf → Group → Result (Option Reply) AnswerFault → Type 0
AnswerTells s g (Ok reply) = (is_submitted g.requests s.0 ≡ true) × (reply ≡ answer_of g.answers s.0)
AnswerTells s g (Err fault.NoRequest) = is_submitted g.requests s.0 ≡ false
AnswerTells s g (Err fault.OutOfMemory) = is_submitted g.requests s.0 ≡ true
