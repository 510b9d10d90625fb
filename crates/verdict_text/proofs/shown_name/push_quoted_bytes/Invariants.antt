use Rattle.std.proofs.Common.{◌≡◌, ◌++◌, string_bytes, drop, flat_map}
use Rattle.verdict_text.specs.ShownName.{quoted_name_byte}
use Rattle.verdict_text.proofs.shown_name.push_quoted_bytes.Given as goal

-- what is written, and what the rest gives, is the whole
abbrev pub invariant-loop-byte : goal.invariant-loop-byte
invariant-loop-byte l =
    string_bytes l.text ++ flat_map quoted_name_byte (drop l.byte-index l.bytes) ≡ string_bytes l.initial.text ++ flat_map quoted_name_byte l.bytes
