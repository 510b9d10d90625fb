use Rattle.std.proofs.Common.{◌≡◌, ◌++◌, flat_map, string_bytes, take}
use Rattle.script_printing.specs.Text.{quoted_item}
use Rattle.script_printing.proofs.printing.push_outputs.Given as goal

abbrev pub invariant-loop-output : goal.invariant-loop-output
invariant-loop-output l = string_bytes l.text ≡ string_bytes l.initial.text ++ flat_map quoted_item (take l.output-index l.outputs)
