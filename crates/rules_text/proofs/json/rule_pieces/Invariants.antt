use Rattle.std.proofs.Common.{◌≡◌, ◌++◌, string_bytes, drop}
use Rattle.std.specs.List.{flat_map}
use Rattle.rules_text.specs.Json.{rule_piece}
use Rattle.rules_text.proofs.json.rule_pieces.Given as goal

-- what is written, and what the rest gives, is the whole
abbrev pub invariant-loop-one : goal.invariant-loop-one
invariant-loop-one l =
    string_bytes l.text ++ flat_map (rule_piece l.entities) (drop l.one-index l.all) ≡ string_bytes l.initial.text ++ flat_map (rule_piece l.entities) l.all
