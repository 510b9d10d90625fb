use Rattle.std.proofs.Common.{arith, ◌≡◌, ◌∙◌, ◌++◌, sym, ap, subst}
use Rattle.group_model_whole.specs.Each.{Each}
use Rattle.world_core.specs.Applying.{runs_from}
use Rattle.world_core.specs.Inside.{entries_told}
use Rattle.world_core.specs.Sound.{FitsAt}
use Rattle.world_core.proofs.Parts.{runs_next}
use Rattle.std.proofs.lemmas.Grind.{common_steps}
use Rattle.world_core.proofs.world.parts.runs_of.Goals as goal

pub loop-place-preserved : goal.loop-place-preserved
loop-place-preserved c =
    let groups = c.args.groups.now in
    let place = c.loop-place.place in
    let count = c.decided_count.result in
    let items : c.keep.new.runs.items ≡ c.loop-place.runs.items ++ runs_from place 0 count = c.keep.ensures ∙ ap (λ l. l ++ runs_from place 0 count) c.in_ok-reserve.ensures.items in
    let next = runs_next groups c.loop-place.runs.items place count c.index-groups-place.result c.loop-place-test.true c.index-groups-place.is c.decided_count.ensures c.loop-place.invariant.fit c.loop-place.invariant.told in record {
      fit = subst (Each (FitsAt groups)) (sym items) next.fit;
      told = ap (entries_told groups) items ∙ next.tell;
    }

pub returns-clause-told : goal.returns-clause-told
returns-clause-told c = grind (arith, common_steps)
