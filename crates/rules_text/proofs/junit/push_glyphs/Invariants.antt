use Rattle.std.proofs.Common.{◌≡◌, ◌++◌, string_bytes, drop}
use Rattle.rules_text.specs.Junit.{escaped}
use Rattle.rules_text.proofs.junit.push_glyphs.Given as goal

-- what is written, and what the rest gives, is the whole
abbrev pub invariant-loop-byte : goal.invariant-loop-byte
invariant-loop-byte l =
    string_bytes l.text ++ escaped (drop l.byte-index l.bytes) ≡ string_bytes l.initial.text ++ escaped l.bytes
