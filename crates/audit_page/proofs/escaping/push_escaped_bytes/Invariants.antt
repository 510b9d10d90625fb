use Rattle.std.proofs.Common.{◌≡◌, ◌++◌, string_bytes, drop}
use Rattle.audit_page.specs.Escape.{escaped_text}
use Rattle.audit_page.proofs.escaping.push_escaped_bytes.Given as goal

-- what is written, and what the rest gives, is the whole
abbrev pub invariant-loop-byte : goal.invariant-loop-byte
invariant-loop-byte l =
    string_bytes l.text ++ escaped_text (drop l.byte-index l.bytes) ≡ string_bytes l.initial.text ++ escaped_text l.bytes
