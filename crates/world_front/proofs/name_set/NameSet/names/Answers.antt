use Rattle.std.proofs.Common.{◌∙◌, arith}
use Rattle.world_front.proofs.NamesInTree.{all_texts}
use Rattle.std.proofs.lemmas.Grind.{common_steps}
use Rattle.world_front.proofs.name_set.NameSet.names.Goals as goal

pub returns : goal.returns
returns c =
    let start = c.into_iter-text-iterator in
    all_texts c.loop-text.names c.loop-text.text-iterator start.result c.self.inside.texts.keys c.in-None.ensures.steps.0 c.loop-text.invariant start.ensures.into_iter_gives.0
    ∙ c.self.view_is

pub loop-text-preserved : goal.loop-text-preserved
loop-text-preserved c = grind (arith, common_steps)
