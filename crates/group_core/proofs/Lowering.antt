-- A message that is delivered, dropped or lost lowers the budget.
use Rattle.std.proofs.Common.{ℕ, ◌≡◌, ◌<◌, false, List, refl, sym, ◌∙◌, ap, subst, arith}
use Rattle.std.specs.Prelude.{Option, Some, None, slice_get}
use Rattle.std.specs.List.{remove}
use Rattle.entry_core.specs.Log.{is_in}
use Rattle.group_model.specs.Types.{Sent, Osd}
use Rattle.group_model.specs.Group.{Group, Deliver, Lose, group_step, refusal_of, refusal_at, missing_at}
use Rattle.group_model.specs.Budget.{budget}
use Rattle.group_model.specs.Reached.{IsReached}
use Rattle.group_model.proofs.Lowering.{deliver_lowers, lose_lowers}
use Rattle.group_core.specs.Sound.{IsSound}
use Rattle.group_core.proofs.Calls.{dropped_is}

pub found_lowers : (old new : Group) (k : ℕ) (m : Sent) → IsReached old → slice_get old.wire k ≡ Some m → new ≡ group_step old (Deliver k) → budget new < budget old
found_lowers old new k m r here is =
    let low = deliver_lowers old r k m here in
    let same : budget new ≡ budget (group_step old (Deliver k)) = ap budget is in
    omega arith

pub delivery_lowers : (old new : Group) (k : ℕ) → IsReached old → (refusal_of old (Deliver k) ≡ None) × (new ≡ group_step old (Deliver k)) → budget new < budget old
delivery_lowers old new k r step = go (slice_get old.wire k) refl step.0
  where
    go : (found : Option Sent) → slice_get old.wire k ≡ found → refusal_at old k found ≡ None → budget new < budget old
    go None here free = absurd (cc)
    go (Some m) here free = found_lowers old new k m r here step.1

pub drop_lowers : {g old : Group} {n : ℕ} → g ≡ old → IsSound g n → (k d : ℕ) (m : Sent) (wire : List Sent) → slice_get g.wire k ≡ Some m → m.to ≡ Osd d → is_in g.up d ≡ false → wire ≡ remove g.wire k →
    budget (record g { wire = wire }) < budget old
drop_lowers {g} same w k d m wire here to down is =
    let step : record g { wire = wire } ≡ group_step g (Deliver k) = ap (λ l. record g { wire = l }) is ∙ sym (dropped_is g k d m here to down) in
    subst (λ v. budget (record g { wire = wire }) < budget v) same (found_lowers g (record g { wire = wire }) k m w.reached here step)

pub loss_lowers : (old new : Group) (k : ℕ) → IsReached old → (refusal_of old (Lose k) ≡ None) × (new ≡ group_step old (Lose k)) → budget new < budget old
loss_lowers old new k r step = go (slice_get old.wire k) refl step.0
  where
    go : (found : Option Sent) → slice_get old.wire k ≡ found → missing_at k found ≡ None → budget new < budget old
    go None here free = absurd (cc)
    go (Some m) here free =
        let low = lose_lowers old r k m here in
        let same : budget new ≡ budget (group_step old (Lose k)) = ap budget step.1 in
        omega arith
