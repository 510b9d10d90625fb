use Rattle.std.proofs.Common.{ap, ◌∙◌, length, option_copied, arith}
use Rattle.std.specs.List.{slice_get}
use Rattle.verdict_core.proofs.Walks.{none_gives}
use Rattle.std.proofs.lemmas.Grind.{elements}
use Rattle.verdict_core.proofs.chains.Chains.some_gives.Goals as goal

pub returns : goal.returns
returns g c =
    none_gives c.args.self.now.kinds.items c.args.grants.now c.args.target.now c.args.needs.now (option_copied c.args.call) (c.chain_gives.ensures.none c.if-chain_gives.false)
    (λ j kind below at. c.loop-kind.invariant j kind (omega (arith, c.loop-kind-test.false, ap length c.as_slice-kind-items.ensures.value)) (ap (λ kinds. slice_get kinds j) c.as_slice-kind-items.ensures.value ∙ at))

pub loop-kind-preserved : goal.loop-kind-preserved
loop-kind-preserved c = grind (arith, elements)
