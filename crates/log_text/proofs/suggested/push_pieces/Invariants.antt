use Rattle.std.proofs.Common.{◌≡◌, ◌++◌, string_bytes, drop}
use Rattle.std.specs.List.{flat_map}
use Rattle.log_text.specs.Suggested.{other_piece}
use Rattle.log_text.proofs.suggested.push_pieces.Given as goal

-- what is written, and what the rest gives, is the whole
abbrev pub invariant-loop-entry : goal.invariant-loop-entry
invariant-loop-entry l =
    string_bytes l.text ++ flat_map other_piece (drop l.entry-index l.grants) ≡ string_bytes l.initial.text ++ flat_map other_piece l.grants
