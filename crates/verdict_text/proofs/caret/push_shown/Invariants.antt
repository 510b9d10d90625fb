use Rattle.std.proofs.Common.{◌≡◌, ◌++◌, string_bytes, drop}
use Rattle.verdict_text.specs.Caret.{shown}
use Rattle.verdict_text.proofs.caret.push_shown.Given as goal

-- what is written, and what the rest gives, is the whole
abbrev pub invariant-loop-byte : goal.invariant-loop-byte
invariant-loop-byte l =
    string_bytes l.text ++ shown (drop l.byte-index l.bytes) ≡ string_bytes l.initial.text ++ shown l.bytes
