use Rattle.std.proofs.Common.{◌≡◌, ◌++◌, flat_map, string_bytes, take}
use Rattle.script_printing.specs.Text.{quoted_item}
use Rattle.script_printing.proofs.printing.push_names.Given as goal

abbrev pub invariant-loop-name : goal.invariant-loop-name
invariant-loop-name l = string_bytes l.text ≡ string_bytes l.initial.text ++ flat_map quoted_item (take l.name-index l.names)
