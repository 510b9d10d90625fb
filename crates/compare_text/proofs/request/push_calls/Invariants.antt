use Rattle.std.proofs.Common.{◌≡◌, ◌++◌, string_bytes, drop}
use Rattle.std.specs.List.{flat_map}
use Rattle.compare_text.specs.Calls.{call_words}
use Rattle.compare_text.proofs.request.push_calls.Given as goal

-- what is written, and what the rest gives, is the whole
abbrev pub invariant-loop-call : goal.invariant-loop-call
invariant-loop-call l =
    string_bytes l.line ++ flat_map call_words (drop l.call-index l.calls) ≡ string_bytes l.initial.line ++ flat_map call_words l.calls
