use Rattle.std.proofs.Common.{◌≡◌, map, take}
use Rattle.serde_json.specs.View.{view}
use Rattle.compare_text.specs.Compared.{example_document}
use Rattle.compare_text.proofs.compare_json.examples_value.Given as goal

-- the items of the examples so far
abbrev pub invariant-loop-example : goal.invariant-loop-example
invariant-loop-example l = map view l.items.items ≡ map example_document (take l.example-index l.examples)
