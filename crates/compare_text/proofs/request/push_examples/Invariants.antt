use Rattle.std.proofs.Common.{◌≡◌, ◌++◌, string_bytes, drop}
use Rattle.std.specs.List.{flat_map}
use Rattle.compare_text.specs.Request.{example_line}
use Rattle.compare_text.proofs.request.push_examples.Given as goal

-- what is written, and what the rest gives, is the whole
abbrev pub invariant-loop-example : goal.invariant-loop-example
invariant-loop-example l =
    string_bytes l.text ++ flat_map (example_line l.sign) (drop l.example-index l.examples) ≡ string_bytes l.initial.text ++ flat_map (example_line l.sign) l.examples
