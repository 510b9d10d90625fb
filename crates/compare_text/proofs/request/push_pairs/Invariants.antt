use Rattle.std.proofs.Common.{◌≡◌, ◌++◌, string_bytes, drop}
use Rattle.std.specs.List.{flat_map}
use Rattle.compare_text.specs.Request.{pair_words}
use Rattle.compare_text.proofs.request.push_pairs.Given as goal

-- what is written, and what the rest gives, is the whole
abbrev pub invariant-loop-pair : goal.invariant-loop-pair
invariant-loop-pair l =
    string_bytes l.line ++ flat_map (pair_words l.application) (drop l.pair-index l.pairs) ≡ string_bytes l.initial.line ++ flat_map (pair_words l.application) l.pairs
