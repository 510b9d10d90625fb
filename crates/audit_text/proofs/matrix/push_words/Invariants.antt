use Rattle.std.proofs.Common.{◌≡◌, ◌++◌, length, string_bytes}
use Rattle.audit_text.specs.Matrix.{aligned_words}
use Rattle.audit_text.proofs.matrix.push_words.Given as goal

-- what is written, and what the rest gives, is the whole
abbrev pub invariant-loop-width : goal.invariant-loop-width
invariant-loop-width l =
    string_bytes l.text ++ aligned_words l.widths l.words ≡ string_bytes l.initial.text ++ aligned_words l.initial.widths l.initial.words

abbrev pub decreases-loop-width : goal.decreases-loop-width
decreases-loop-width l = length l.widths
