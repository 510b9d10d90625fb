-- Settling ends.
use Rattle.std.proofs.Common.{[], slice_get, ap, arith}
use Rattle.group_model.specs.Group.{Group}
use Rattle.group_model.specs.Budget.{budget}
use Rattle.group_model.specs.Reached.{IsReached}
use Rattle.group_model.proofs.Runs.{settle_is_run, settle_idle, delivered_idle}
use Rattle.group_model.proofs.Lowering.{deliver_lowers, lose_lowers, settle_done, delivered_few, settle_more}
use Rattle.group_model.specs.Laws.{SettlingEnds}

pub settling : (g : Group) → IsReached g → SettlingEnds g
settling g r = record {
  delivers = deliver_lowers g r;
  loses = lose_lowers g r;
  empties = settle_done g r (budget g) (omega arith);
  counts = delivered_few g r (budget g);
  runs = λ n. settle_is_run n [] g;
  stops = settle_more g r;
  rests = λ empty. (settle_idle (budget g) g (ap (λ ms. slice_get ms 0) empty), delivered_idle (budget g) g (ap (λ ms. slice_get ms 0) empty));
}
