use Rattle.std.proofs.Common.{◌≡◌, ◌++◌, string_bytes, drop}
use Rattle.log_text.specs.Object.{escaped}
use Rattle.log_text.proofs.object.push_escaped.Given as goal

-- what is written, and what the rest gives, is the whole
abbrev pub invariant-loop-byte : goal.invariant-loop-byte
invariant-loop-byte l =
    string_bytes l.text ++ escaped (drop l.byte-index l.name) ≡ string_bytes l.initial.text ++ escaped l.name
