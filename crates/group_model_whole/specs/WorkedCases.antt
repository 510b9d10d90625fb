-- Statement: contracts of public calls use it.
-- Worked cases.
use Rattle.std.specs.Prelude.{ℕ, ◌≡◌, true, false, List, [], ◌∷◌, map, length, Some, None}
use Rattle.store_core.specs.Request.{Sealed}
use Rattle.store_core.specs.declared.sealed.GroupId.{GroupId}
use Rattle.entry_core.specs.Log.{ids}
use Rattle.group_messages.specs.Answers.{Answer}
use Rattle.group_messages.specs.declared.fault.GroupFault.TheVariants.{NoMessage, Unreachable, Doubled}
use Rattle.group_model_whole.specs.Group.{Group, Event, Submit, Deliver, Lose, NewInterval, Restart, run, start, settle, kick, refusal_of}
use Rattle.group_model_whole.specs.Budget.{settled_group, settle_count}
use Rattle.group_model_whole.specs.Calm.{OnlyCalm}
use Rattle.group_model_whole.specs.Recovering.{lost_all}
use Rattle.group_model_whole.specs.Recovery.{is_ready}

-- a request of that number, whatever it asks for
abbrev pub ask : Sealed → ℕ → Sealed
ask s n = record s { id = n }

abbrev pub three : GroupId → Group
three group = start group 2 3 (0 ∷ 1 ∷ 2 ∷ []) (0 ∷ 1 ∷ 2 ∷ [])

abbrev pub opened : GroupId → Group
opened group = settle 11 (three group)

-- a request whose reply is lost as its primary goes away: decided once
abbrev pub lost_reply : GroupId → Sealed → Group
lost_reply group s = settle 40 (run (Lose 0 ∷ NewInterval (1 ∷ 2 ∷ []) (1 ∷ 2 ∷ []) ∷ []) (settle 5 (run (Submit (ask s 7) ∷ []) (opened group))))

abbrev pub answer_ids : List Answer → List ℕ
answer_ids answers = map (λ a. a.id) answers

abbrev pub IsLostReply : GroupId → Sealed → Type 0
IsLostReply group s = (length (opened group).wire ≡ 0) × (ids (lost_reply group s).audit ≡ 7 ∷ []) × (answer_ids (lost_reply group s).answers ≡ 7 ∷ []) × (length (lost_reply group s).wire ≡ 0)

-- a late acknowledgement decides an entry that the next interval has chosen already
abbrev pub late : GroupId → Sealed → Group
late group s = run (Submit (ask s 1) ∷ Deliver 0 ∷ Deliver 0 ∷ NewInterval (1 ∷ 2 ∷ []) (0 ∷ 1 ∷ 2 ∷ []) ∷ Deliver 1 ∷ Deliver 4 ∷ Deliver 4 ∷ Deliver 0 ∷ [])
    (settle 6 (start group 2 3 (0 ∷ 1 ∷ []) (0 ∷ 1 ∷ 2 ∷ [])))

abbrev pub IsLate : GroupId → Sealed → Type 0
IsLate group s = (ids (late group s).audit ≡ 1 ∷ []) × (length (late group s).wire ≡ 5) × (ids (settle 30 (late group s)).audit ≡ 1 ∷ []) × (answer_ids (settle 30 (late group s)).answers ≡ 1 ∷ []) × (length (settle 30 (late group s)).wire ≡ 0)

-- peerings that were left half done
abbrev pub half_done : GroupId → Sealed → Group
half_done group s = run (
    Submit (ask s 1) ∷ Deliver 0 ∷ Lose 0 ∷ Lose 0 ∷
    NewInterval (1 ∷ 2 ∷ []) (1 ∷ 2 ∷ []) ∷ Deliver 0 ∷ Deliver 3 ∷ Deliver 3 ∷ Lose 0 ∷ Lose 0 ∷ Lose 0 ∷ Lose 0 ∷
    NewInterval (0 ∷ 2 ∷ []) (0 ∷ 2 ∷ []) ∷ Deliver 0 ∷ Deliver 3 ∷ Deliver 3 ∷ Lose 0 ∷ Lose 0 ∷ Lose 0 ∷ Lose 0 ∷
    NewInterval (1 ∷ 2 ∷ []) (1 ∷ 2 ∷ []) ∷ Lose 2 ∷ Submit (ask s 2) ∷ []) (opened group)

abbrev pub after_two : GroupId → Sealed → Group
after_two group s = settle 40 (half_done group s)

abbrev pub after_three : GroupId → Sealed → Group
after_three group s = settle 40 (run (Submit (ask s 3) ∷ []) (settle 40 (run (NewInterval (0 ∷ 1 ∷ 2 ∷ []) (0 ∷ 1 ∷ 2 ∷ []) ∷ []) (after_two group s))))

abbrev pub IsHalfDone : GroupId → Sealed → Type 0
IsHalfDone group s = (ids (after_two group s).audit ≡ 2 ∷ []) × (answer_ids (after_two group s).answers ≡ 2 ∷ []) × (ids (after_three group s).audit ≡ 2 ∷ 1 ∷ 3 ∷ []) × (answer_ids (after_three group s).answers ≡ 2 ∷ 1 ∷ 3 ∷ [])

-- counts of deliveries and refusals

abbrev pub asked_once : GroupId → Sealed → Group
asked_once group s = run (Submit (ask s 7) ∷ []) (settled_group (three group))

abbrev pub one_down : GroupId → Group
one_down group = run (NewInterval (0 ∷ 1 ∷ []) (0 ∷ 1 ∷ []) ∷ Deliver 0 ∷ []) (settled_group (three group))

abbrev pub IsCounted : GroupId → Sealed → Type 0
IsCounted group s = (settle_count (three group) ≡ 11) × (settle_count (asked_once group s) ≡ 6) × (settle_count (start group 1 1 (0 ∷ []) (0 ∷ [])) ≡ 1) × (settle_count (start group 1 1 [] (0 ∷ [])) ≡ 0) ×
    (refusal_of (asked_once group s) (Submit (ask s 7)) ≡ Some Doubled) × (refusal_of (asked_once group s) (Submit (ask s 8)) ≡ None) ×
    (refusal_of (asked_once group s) (Deliver 1) ≡ Some (NoMessage 1)) × (refusal_of (asked_once group s) (Deliver 0) ≡ None) × (refusal_of (one_down group) (Deliver 2) ≡ Some Unreachable)

-- every message lost, and a kick

-- one member is enough: the first two members hold what was begun, and go away
abbrev pub moved_away : GroupId → Group
moved_away group = run (NewInterval (2 ∷ []) (2 ∷ []) ∷ []) (settled_group (start group 1 3 (0 ∷ 1 ∷ []) (0 ∷ 1 ∷ 2 ∷ [])))

-- one of them comes back
abbrev pub moved_back : GroupId → Group
moved_back group = run (NewInterval (2 ∷ 0 ∷ []) (0 ∷ 2 ∷ []) ∷ []) (moved_away group)

abbrev pub kicked_back : GroupId → Sealed → Group
kicked_back group s = kick (lost_all (run (Submit (ask s 1) ∷ []) (moved_back group)))

-- a restart, and a request before anything is delivered
abbrev pub kicked_restart : GroupId → Sealed → Group
kicked_restart group s = kick (lost_all (run (Restart 0 ∷ Submit (ask s 1) ∷ []) (settled_group (three group))))

abbrev pub IsRecovered : GroupId → Sealed → Type 0
IsRecovered group s = (is_ready (moved_away group) ≡ false) × (is_ready (moved_back group) ≡ true) × (settle_count (kicked_back group s) ≡ 10) × (answer_ids (settled_group (kicked_back group s)).answers ≡ 1 ∷ []) ×
    (settle_count (kicked_restart group s) ≡ 17) × (answer_ids (settled_group (kicked_restart group s)).answers ≡ 1 ∷ [])

-- one interval of 0 and 1, while daemon 2 goes away and restarts; and the same in a set that is too small
abbrev pub calmly : Sealed → List ℕ → List Event
calmly s set = Submit (ask s 8) ∷ Deliver 0 ∷ NewInterval set (0 ∷ 1 ∷ []) ∷ Restart 2 ∷ Submit (ask s 7) ∷ Deliver 0 ∷ []

abbrev pub calm_pair : GroupId → Sealed → Group
calm_pair group s = run (calmly s (0 ∷ 1 ∷ [])) (start group 2 3 (0 ∷ 1 ∷ []) (0 ∷ 1 ∷ 2 ∷ []))

abbrev pub calm_single : GroupId → Sealed → Group
calm_single group s = run (calmly s (0 ∷ [])) (start group 2 3 (0 ∷ []) (0 ∷ 1 ∷ 2 ∷ []))

abbrev pub calm_nobody : GroupId → Sealed → Group
calm_nobody group s = run (calmly s []) (start group 2 3 [] (0 ∷ 1 ∷ 2 ∷ []))

abbrev pub IsServedCalmly : GroupId → Sealed → Type 0
IsServedCalmly group s = OnlyCalm (0 ∷ 1 ∷ []) (calmly s (0 ∷ 1 ∷ [])) × OnlyCalm (0 ∷ []) (calmly s (0 ∷ [])) × OnlyCalm [] (calmly s []) ×
    (settle_count (calm_pair group s) ≡ 12) × (ids (settled_group (calm_pair group s)).audit ≡ 8 ∷ 7 ∷ []) × (answer_ids (settled_group (calm_pair group s)).answers ≡ 8 ∷ 7 ∷ []) ×
    (settle_count (calm_single group s) ≡ 3) × (answer_ids (settled_group (calm_single group s)).answers ≡ []) × (length (settled_group (calm_single group s)).wire ≡ 0) ×
    (settle_count (calm_nobody group s) ≡ 0) × (answer_ids (settled_group (calm_nobody group s)).answers ≡ [])
