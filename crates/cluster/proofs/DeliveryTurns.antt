-- A pass is a pass after a delivery, and after a look for an answer.
use Rattle.std.proofs.Common.{◌≡◌, ℕ, ◌<◌, List, [], ◌∷◌, refl, Some}
use Rattle.std.specs.Prelude.{Option, None, Result, Ok, Err}
use Rattle.std.specs.Option.{option_to_list}
use Rattle.map_core.specs.State.{History}
use Rattle.store_core.specs.declared.reply.Reply.{Reply}
use Rattle.store_core.specs.declared.sealed.GroupId.{GroupId}
use Rattle.group_model_whole.specs.Each.{Each}
use Rattle.group_model.specs.Group.{Group, Event, Deliver}
use Rattle.group_messages.specs.declared.fault.GroupFault.{GroupFault}
use Rattle.group_messages.specs.declared.fault.GroupFault.TheVariants.{NoMessage, Unreachable, Full, OutOfMemory, Doubled}
use Rattle.cluster.specs.declared.cluster.Cluster.{Cluster}
use Rattle.cluster.specs.declared.cluster.Seats.{Seats}
use Rattle.cluster_locks.specs.declared.groups.AnswerFault.{AnswerFault}
use Rattle.cluster_locks.specs.declared.groups.AnswerOf.{AnswerOf}
use Rattle.cluster_locks.specs.declared.groups.Worked.{Worked}
use Rattle.cluster_locks.specs.declared.groups.Worked.TheVariants as worked
use Rattle.cluster.specs.declared.pass.OwnSession.{OwnSession}
use Rattle.cluster.specs.declared.pass.Pass.{Pass}
use Rattle.cluster_locks.specs.Groups.{work_entry, WorkTells, answer_entry, AnswerTells}
use Rattle.cluster.specs.Passes.{GroupTurn, AreSeatsOf, group_count}
use Rattle.cluster.specs.GroupMoves.{happened, OneMoved}
use Rattle.cluster.specs.Asks.{IsOwnEvent, IsPassOf}
use Rattle.cluster.proofs.PassTurns.{AsksNow, asks_still, one_made, turned_pass}

-- what a delivery is among the seat's events
abbrev delivery : Result Worked GroupFault → Option Event
delivery (Ok worked.Delivered) = Some (Deliver 0)
delivery (Ok worked.Idle) = None
delivery (Err Unreachable) = Some (Deliver 0)
delivery (Err (NoMessage k)) = None
delivery (Err Full) = None
delivery (Err OutOfMemory) = None
delivery (Err Doubled) = None

delivery_is : (told : Result Worked GroupFault) (g : Group) → happened (work_entry (record {}) g told ∷ []) ≡ option_to_list (delivery told)
delivery_is (Ok worked.Delivered) g = refl
delivery_is (Ok worked.Idle) g = refl
delivery_is (Err Unreachable) g = refl
delivery_is (Err (NoMessage k)) g = refl
delivery_is (Err Full) g = refl
delivery_is (Err OutOfMemory) g = refl
delivery_is (Err Doubled) g = refl

delivery_own : (start : History) (own : List OwnSession) (id : GroupId) (told : Result Worked GroupFault) → Each (IsOwnEvent start own id) (option_to_list (delivery told))
delivery_own start own id (Ok worked.Delivered) = (refl, tt)
delivery_own start own id (Ok worked.Idle) = tt
delivery_own start own id (Err Unreachable) = (refl, tt)
delivery_own start own id (Err (NoMessage k)) = tt
delivery_own start own id (Err Full) = tt
delivery_own start own id (Err OutOfMemory) = tt
delivery_own start own id (Err Doubled) = tt

none_asked : (told : Result Worked GroupFault) (id : ℕ) → AsksNow (delivery told) id → ⊥
none_asked (Ok worked.Delivered) id h = cc
none_asked (Ok worked.Idle) id h = cc
none_asked (Err Unreachable) id h = cc
none_asked (Err (NoMessage k)) id h = cc
none_asked (Err Full) id h = cc
none_asked (Err OutOfMemory) id h = cc
none_asked (Err Doubled) id h = cc

module _ (c : Cluster) (old : Pass) (seats : Seats) (k : ℕ) (below : k < group_count c) (pass : IsPassOf c old) (are : AreSeatsOf c seats) where
  pub work_pass : (told : Result Worked GroupFault) → GroupTurn work_entry WorkTells c old.seats seats k (record {}) told → IsPassOf c (record old { seats = seats })
  work_pass told turn =
      let one : OneMoved (delivery told) k old.seats seats = one_made c old (record old { seats = seats }) k below pass are work_entry WorkTells (record {}) told turn (delivery told) (delivery_is told) in
      turned_pass c old (record old { seats = seats }) k below pass are work_entry WorkTells (record {}) told turn refl
      (asks_still c old.sessions.items old.sessions.items old.seats seats k (delivery told) pass.asks one refl (none_asked told) (λ g. delivery_own c.start old.sessions.items g.group told))

  pub look_pass : (step : AnswerOf) (told : Result (Option Reply) AnswerFault) → GroupTurn answer_entry AnswerTells c old.seats seats k step told → IsPassOf c (record old { seats = seats })
  look_pass step told turn =
      let one : OneMoved None k old.seats seats = one_made c old (record old { seats = seats }) k below pass are answer_entry AnswerTells step told turn None (λ g. refl) in
      turned_pass c old (record old { seats = seats }) k below pass are answer_entry AnswerTells step told turn refl
      (asks_still c old.sessions.items old.sessions.items old.seats seats k None pass.asks one refl (λ id h. none id h) (λ g. tt))
    where
      none : (id : ℕ) → AsksNow None id → ⊥
      none id h = cc
