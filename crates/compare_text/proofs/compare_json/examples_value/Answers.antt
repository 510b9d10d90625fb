use Rattle.std.proofs.Common.{arith}
use Rattle.compare_text.specs.Compared.{example_document}
use Rattle.compare_text.proofs.Items.{next_item}
use Rattle.std.proofs.lemmas.Grind.{common_steps}
use Rattle.compare_text.proofs.compare_json.examples_value.Goals as goal

pub loop-example-preserved : goal.loop-example-preserved
loop-example-preserved c =
    next_item example_document c.args.examples.now c.loop-example.example-index c.example-item.result c.loop-example.items.items _ c.in_ok-value.value (omega arith) c.example-item.is c.loop-example.invariant
    c.in_ok-push.ensures.items c.in_ok-value.ensures

pub returns : goal.returns
returns c = grind (arith, common_steps)
