use Rattle.std.proofs.Common.{◌≡◌, ◌++◌, string_bytes, drop}
use Rattle.std.specs.List.{flat_map}
use Rattle.log_text.specs.Decision.{pair_piece}
use Rattle.log_text.proofs.written.pair_pieces.Given as goal

-- what is written, and what the rest gives, is the whole
abbrev pub invariant-loop-pair : goal.invariant-loop-pair
invariant-loop-pair l =
    string_bytes l.text ++ flat_map pair_piece (drop l.pair-index l.pairs) ≡ string_bytes l.initial.text ++ flat_map pair_piece l.pairs
