use Rattle.std.proofs.Common.{arith, refl, sym, ap, subst, ◌∙◌, ◌≡◌, map, length, inl, inr}
use Rattle.std.specs.Prelude.{All}
use Rattle.cluster_locks.specs.Places.{Beside}
use Rattle.cluster.specs.Asks.{IsPassOf}
use Rattle.cluster.specs.Workers.{HasWorked, HaveEnded, first_fault, pass_of, fault_of}
use Rattle.cluster_locks.proofs.Places.{spliced}
use Rattle.cluster.proofs.Rounds.{beside_itself, at_work, passes_after, passes_worked}
use Rattle.cluster.proofs.FirstFaults.{all_end}
use Rattle.cluster.proofs.workers.run_workers.Given as given
use Rattle.std.proofs.lemmas.Grind.{common_steps}
use Rattle.cluster.proofs.workers.run_workers.Goals as goal

pub returns-in_default-clause-worked : goal.returns-in_default-clause-worked
returns-in_default-clause-worked g c = beside_itself c.args.rounds c.args.passes.items

pub returns-in_default-with_capacity-clause-worked : goal.returns-in_default-with_capacity-clause-worked
returns-in_default-with_capacity-clause-worked g c = beside_itself c.args.rounds c.args.passes.items

pub returns-in_default-clause-fault : goal.returns-in_default-clause-fault
returns-in_default-clause-fault g c = inl (refl, refl)

pub returns-in_default-with_capacity-clause-fault : goal.returns-in_default-with_capacity-clause-fault
returns-in_default-with_capacity-clause-fault g c = inl (refl, refl)

pub work_all-requires-after_bounds : goal.work_all-requires-after_bounds
work_all-requires-after_bounds g c lifetimes bounds k d less = at_work c.args.cluster.now c.as_mut_slice.result.now c.args.passes.items (ap (map pass_of) c.as_mut_slice.ensures.value ∙ c.enlist-workers.ensures) c.requires k d less

-- the passes that come back are those of the workers
came_back : (g : given.Over) (c : goal.After-dismiss g) → c.dismiss.result.0.items ≡ map pass_of c.work_all.new.workers
came_back g c =
    let long : length c.work_all.new.workers ≡ c.enlist-workers.result.len = c.work_all.ensures.count ∙ (ap length c.as_mut_slice.ensures.value ∙ sym c.enlist-workers.result.ok.0) in
    c.dismiss.ensures.passes ∙ ap (map pass_of) (spliced c.work_all.new.workers _ c.enlist-workers.result.len long)

pub returns-clause-passes : goal.returns-clause-passes
returns-clause-passes g c = subst (All (IsPassOf c.args.cluster.now)) (sym (came_back g c))
    (passes_after c.args.cluster.now (g.G.Gate.refuses c.args.gate.now) c.args.rounds c.as_mut_slice.result.now c.work_all.new.workers c.work_all.ensures.count c.work_all.ensures.each)

pub returns-clause-worked : goal.returns-clause-worked
returns-clause-worked g c =
    let before : map pass_of c.as_mut_slice.result.now ≡ c.args.passes.items = ap (map pass_of) c.as_mut_slice.ensures.value ∙ c.enlist-workers.ensures in
    subst (λ ps. Beside (HasWorked c.args.rounds) ps c.dismiss.result.0.items) before
    (subst (Beside (HasWorked c.args.rounds) (map pass_of c.as_mut_slice.result.now)) (sym (came_back g c)) (passes_worked c.args.cluster.now (g.G.Gate.refuses c.args.gate.now) c.args.rounds c.as_mut_slice.result.now c.work_all.new.workers c.work_all.ensures.count c.work_all.ensures.each))

pub returns-clause-fault : goal.returns-clause-fault
returns-clause-fault g c =
    let before : map pass_of c.as_mut_slice.result.now ≡ c.args.passes.items = ap (map pass_of) c.as_mut_slice.ensures.value ∙ c.enlist-workers.ensures in
    let long : length c.work_all.new.workers ≡ c.enlist-workers.result.len = c.work_all.ensures.count ∙ (ap length c.as_mut_slice.ensures.value ∙ sym c.enlist-workers.result.ok.0) in
    let faults = map fault_of c.work_all.new.workers in inr (
      faults,
      subst (λ ps. HaveEnded c.args.cluster.now (g.G.Gate.refuses c.args.gate.now) c.args.rounds ps c.dismiss.result.0.items faults) before
          (subst (λ ps. HaveEnded c.args.cluster.now (g.G.Gate.refuses c.args.gate.now) c.args.rounds (map pass_of c.as_mut_slice.result.now) ps faults) (sym (came_back g c))
          (all_end c.args.cluster.now (g.G.Gate.refuses c.args.gate.now) c.args.rounds c.as_mut_slice.result.now c.work_all.new.workers c.work_all.ensures.count c.work_all.ensures.each)),
      c.dismiss.ensures.fault ∙ ap (λ ws. first_fault (map fault_of ws)) (spliced c.work_all.new.workers _ c.enlist-workers.result.len long),
    )

pub dismiss-requires : goal.dismiss-requires
dismiss-requires c = grind (arith, common_steps)
