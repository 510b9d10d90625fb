-- Each delivery and each loss lowers the budget, as it does in the group for which it stands.
use Rattle.std.proofs.Common.{ℕ, ◌≡◌, ◌≤◌, ◌+◌, ◌-◌, [], slice_get, ◌∙◌, ap, arith}
use Rattle.std.specs.Prelude.{Some}
use Rattle.group_model_whole.specs.Group.{Group as WholeGroup, settle as whole_settle, group_step as whole_group_step}
use Rattle.group_model_whole.proofs.Reached.{reached_bounded}
use Rattle.group_model_whole.proofs.Settles.{Bounded, deliver_lowers as whole_deliver_lowers, lose_lowers as whole_lose_lowers, settle_done as whole_settle_done, delivered_few as whole_delivered_few}
use Rattle.group_model.specs.Standing.{SameSent, StandsFor}
use Rattle.group_model.specs.Types.{Sent}
use Rattle.group_model.specs.Group.{Group, Event, Deliver, Lose, group_step, settle, delivered}
use Rattle.group_model.specs.Budget.{budget}
use Rattle.group_model.specs.Reached.{IsReached}
use Rattle.group_model.proofs.Events.{step_locked}
use Rattle.group_model.proofs.Lists.{Beside, beside}
use Rattle.group_model.proofs.Runs.{settle-add, settle_idle}
use Rattle.group_model.proofs.Twins.{Twin, twin_of, lock_stands, settle_locked}
use Rattle.group_model.proofs.Counts.{budget_same, delivered_same, empty_same}

module _ (g : Group) (r : IsReached g) where
  abbrev twin : Twin g
  twin = twin_of g r

  abbrev w : WholeGroup
  w = twin.whole

  ok : Bounded w
  ok = reached_bounded w twin.reached

  now : StandsFor g w
  now = lock_stands g w twin.lock

  next : (e : Event) → StandsFor (group_step g e) (whole_group_step w e)
  next e = lock_stands (group_step g e) (whole_group_step w e) (step_locked g w e twin.lock)

  beside_sent : (k : ℕ) (m : Sent) → slice_get g.wire k ≡ Some m → Beside SameSent m w.wire k
  beside_sent k m is = beside SameSent g.wire w.wire k m now.wire is

  pub deliver_lowers : (k : ℕ) (m : Sent) → slice_get g.wire k ≡ Some m → budget (group_step g (Deliver k)) + 1 ≤ budget g
  deliver_lowers k m is =
      let b = beside_sent k m is in
      let low = whole_deliver_lowers w k b.item b.is ok in
      let was = budget_same g w now in
      let now = budget_same (group_step g (Deliver k)) (whole_group_step w (Deliver k)) (next (Deliver k)) in
      omega arith

  pub lose_lowers : (k : ℕ) (m : Sent) → slice_get g.wire k ≡ Some m → budget (group_step g (Lose k)) + 1 ≤ budget g
  lose_lowers k m is =
      let b = beside_sent k m is in
      let low = whole_lose_lowers w k b.item b.is in
      let was = budget_same g w now in
      let now = budget_same (group_step g (Lose k)) (whole_group_step w (Lose k)) (next (Lose k)) in
      omega arith

  pub settle_done : (n : ℕ) → budget g ≤ n → (settle n g).wire ≡ []
  settle_done n le =
      let same = budget_same g w now in
      empty_same (settle n g) (whole_settle n w) (lock_stands (settle n g) (whole_settle n w) (settle_locked n g w twin.lock)) (whole_settle_done n w ok (omega arith))

  pub delivered_few : (n : ℕ) → delivered n g ≤ budget g
  delivered_few n =
      let few = whole_delivered_few n w ok in
      let same = budget_same g w now in
      let as_many = delivered_same n g w twin.lock in
      omega arith

  -- more deliveries change nothing
  pub settle_more : (n : ℕ) → budget g ≤ n → settle n g ≡ settle (budget g) g
  settle_more n le =
      let done : (settle (budget g) g).wire ≡ [] = settle_done (budget g) (omega arith) in
      settle-add (budget g) (n - budget g) n g (omega arith) ∙ settle_idle (n - budget g) (settle (budget g) g) (ap (λ ms. slice_get ms 0) done)
