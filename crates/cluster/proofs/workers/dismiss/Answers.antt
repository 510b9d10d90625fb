use Rattle.std.proofs.Common.{[], ◌∷◌, ◌++◌, map, arith, sym, ap, ◌∙◌}
use Rattle.std.specs.Option.{option_or}
use Rattle.std.proofs.lemmas.List.{map-append}
use Rattle.cluster.specs.Workers.{first_fault, pass_of, fault_of}
use Rattle.cluster.proofs.FirstFaults.{first_more}
use Rattle.cluster.proofs.workers.dismiss.Goals as goal

pub loop-worker-preserved : goal.loop-worker-preserved
loop-worker-preserved c =
    let before = c.loop-worker.yielded in
    let worker = c.in-Some.worker in
    let inv = c.loop-worker.invariant in
    let room = inv.room in
    let same = c.push_reserved.ensures.capacity in record {
      made = c.push_reserved.ensures.items ∙ (ap (λ l. l ++ worker.pass ∷ []) inv.made ∙ sym (map-append pass_of before (worker ∷ [])));
      told = c.first_of-first.ensures ∙ (ap (λ f. option_or f worker.fault) inv.told ∙ (sym (first_more (map fault_of before) worker.fault) ∙ ap first_fault (sym (map-append fault_of before (worker ∷ [])))));
      room = omega arith;
    }
