use Rattle.std.proofs.Common.{◌≡◌, ◌++◌, string_bytes, drop}
use Rattle.std.specs.List.{flat_map}
use Rattle.log_text.specs.Decision.{call_piece}
use Rattle.log_text.proofs.written.call_pieces.Given as goal

-- what is written, and what the rest gives, is the whole
abbrev pub invariant-loop-call : goal.invariant-loop-call
invariant-loop-call l =
    string_bytes l.text ++ flat_map call_piece (drop l.call-index l.calls) ≡ string_bytes l.initial.text ++ flat_map call_piece l.calls
