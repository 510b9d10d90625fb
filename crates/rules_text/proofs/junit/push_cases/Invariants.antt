use Rattle.std.proofs.Common.{◌≡◌, ◌++◌, string_bytes, drop}
use Rattle.std.specs.List.{flat_map}
use Rattle.rules_text.specs.Junit.{case_of}
use Rattle.rules_text.proofs.junit.push_cases.Given as goal

-- what is written, and what the rest gives, is the whole
abbrev pub invariant-loop-one : goal.invariant-loop-one
invariant-loop-one l =
    string_bytes l.text ++ flat_map (case_of l.entities) (drop l.one-index l.all) ≡ string_bytes l.initial.text ++ flat_map (case_of l.entities) l.all
