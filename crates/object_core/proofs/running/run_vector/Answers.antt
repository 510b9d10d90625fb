use Rattle.std.proofs.Common.{sym, ap, ◌∙◌, option_copied, arith}
use Rattle.object_core.specs.ToldSteps.{told_step}
use Rattle.object_core.specs.ToldEffects.{after}
use Rattle.object_core.proofs.Runs.{run_fails, run_goes_on, run_ends, looks_at, next_is}
use Rattle.object_core.proofs.running.run_vector.Goals as goal

pub returns-in-Err : goal.returns-in-Err
returns-in-Err c =
    let given = option_copied c.args.object in
    record {
      effect = run_fails c.args.ops.now c.loop-i.i c.index-ops-i.result (after given c.loop-i.change) c.loop-i.outputs.items _ (omega arith) c.index-ops-i.is c.loop-i.invariant.so_far c.in-Err.number (ap (told_step given) (sym c.in-Err.is) ∙ c.in_ok-number.ensures.effect);
      kept = λ all. tt;
    }

pub loop-i-preserved : goal.loop-i-preserved
loop-i-preserved c =
    let given = option_copied c.args.object in
    record {
      so_far = rw c.in_ok-push-in-Ok.ensures.items
          (run_goes_on c.args.ops.now c.loop-i.i c.index-ops-i.result (after given c.loop-i.change) c.loop-i.outputs.items _ (omega arith) c.index-ops-i.is c.loop-i.invariant.so_far c.in-Ok.output (after given c.in-Ok.next) (ap (told_step given) (sym c.in-Ok.is) ∙ c.in_ok-number.ensures.effect));
      kept = λ all. next_is c.loop-i.change c.in-Ok.next c.in-Ok.output _ c.in-Ok.is (c.in_ok-number.ensures.stays (looks_at c.args.ops.now c.loop-i.i c.index-ops-i.result (omega arith) c.index-ops-i.is all)) ∙ c.loop-i.invariant.kept all;
    }

pub returns : goal.returns
returns c =
    record {
      effect = rw c.from_vec.ensures (run_ends c.args.ops.now c.loop-i.i (after (option_copied c.args.object) c.loop-i.change) c.loop-i.outputs.items _ c.loop-i-test.false c.loop-i.invariant.so_far);
      kept = c.loop-i.invariant.kept;
    }
