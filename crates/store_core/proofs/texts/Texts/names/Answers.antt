use Rattle.std.proofs.Common.{arith, ◌∙◌, ap}
use Rattle.std.specs.FinMap.{keys}
use Rattle.store_core.proofs.TextSets.{all_texts}
use Rattle.std.proofs.lemmas.Grind.{common_steps}
use Rattle.store_core.proofs.texts.Texts.names.Goals as goal

pub returns : goal.returns
returns c =
    let start = c.into_iter-text-iterator in
    all_texts c.loop-text.names c.loop-text.text-iterator start.result c.self.inside.texts.keys c.in-None.ensures.steps.0 c.loop-text.invariant start.ensures.into_iter_gives.0 start.ensures.into_iter_gives.4
    ∙ ap keys c.self.view_is

pub loop-text-preserved : goal.loop-text-preserved
loop-text-preserved c = grind (arith, common_steps)
