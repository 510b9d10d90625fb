-- Losing every message.
use Rattle.std.proofs.Common.{ℕ, zero, suc, ◌≡◌, List, [], ◌∷◌, length, replicate, refl, ◌∙◌, ap}
use Rattle.std.specs.Prelude.{Option, Some, None, slice_get}
use Rattle.std.specs.List.{remove}
use Rattle.group_model_whole.specs.Each.{Each}
use Rattle.group_model_whole.specs.Recovering.{IsLoss}
use Rattle.group_model.specs.Types.{Sent}
use Rattle.group_model.specs.Group.{Group, Event, Submit, Deliver, Lose, Repeat, NewInterval, Restart, Kick, lose, group_step, run}
use Rattle.group_model.specs.Recovering.{lost_all}

abbrev with_wire : List Sent → Group → Group
with_wire wire g = record g { wire = wire }

lose_only : (g : Group) (k : ℕ) (found : Option Sent) → lose g k found ≡ record g { wire = (lose g k found).wire }
lose_only g k None = refl
lose_only g k (Some m) = refl

losses_only : (losses : List Event) (g : Group) → Each IsLoss losses → run losses g ≡ record g { wire = (run losses g).wire }
losses_only [] g each = refl
losses_only (Lose k ∷ es) g each =
    let rest = losses_only es (group_step g (Lose k)) each.1 in
    rest ∙ ap (with_wire (run es (group_step g (Lose k))).wire) (lose_only g k (slice_get g.wire k))
losses_only (Submit s ∷ es) g each = absurd each.0
losses_only (Deliver k ∷ es) g each = absurd each.0
losses_only (Repeat k ∷ es) g each = absurd each.0
losses_only (NewInterval acting up ∷ es) g each = absurd each.0
losses_only (Restart d ∷ es) g each = absurd each.0
losses_only (Kick ∷ es) g each = absurd each.0

pub all_lost : (g : Group) (losses : List Event) → Each IsLoss losses → (run losses g).wire ≡ [] → run losses g ≡ lost_all g
all_lost g losses each empty = losses_only losses g each ∙ ap (λ ms. record g { wire = ms }) empty

lose_each : (ms : List Sent) (g : Group) → g.wire ≡ ms → (run (replicate (length ms) (Lose 0)) g).wire ≡ []
lose_each [] g is = is
lose_each (m ∷ ms) g is =
    let found : slice_get g.wire 0 ≡ Some m = ap (λ v. slice_get v 0) is in
    let next : (group_step g (Lose 0)).wire ≡ ms = ap (λ v. (lose g 0 v).wire) found ∙ ap (λ v. remove v 0) is in
    lose_each ms (group_step g (Lose 0)) next

each_loss : (n : ℕ) → Each IsLoss (replicate n (Lose 0))
each_loss zero = tt
each_loss (suc n) = (tt, each_loss n)

pub can_lose : (g : Group) → run (replicate (length g.wire) (Lose 0)) g ≡ lost_all g
can_lose g = all_lost g (replicate (length g.wire) (Lose 0)) (each_loss (length g.wire)) (lose_each g.wire g refl)
