use Rattle.std.proofs.Common.{◌≡◌, ◌∙◌, arith}
use Rattle.std.proofs.lemmas.List.{take_all}
use Rattle.std.proofs.lemmas.Grind.{common_steps}
use Rattle.object_core.proofs.attributes.Attributes.copy.Goals as goal

pub invariant_of-result : goal.invariant_of-result
invariant_of-result c =
    let same : c.loop-attribute.attributes.items ≡ c.args.self.now = c.loop-attribute.invariant ∙ take_all _ _ (omega arith) ∙ c.as_slice-attribute-items.ensures.value in
    rw same c.as_slice-attribute-items.ensures.limits

pub loop-attribute-preserved : goal.loop-attribute-preserved
loop-attribute-preserved c = grind (arith, common_steps)

pub returns : goal.returns
returns c = grind (arith, common_steps)
