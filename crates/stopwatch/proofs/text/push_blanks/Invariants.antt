use Rattle.std.proofs.Common.{◌≡◌, ◌++◌, string_bytes}
use Rattle.stopwatch.specs.Text.{blanks}
use Rattle.stopwatch.proofs.text.push_blanks.Given as goal

abbrev pub invariant-loop : goal.invariant-loop
invariant-loop l = string_bytes l.text ≡ string_bytes l.initial.text ++ blanks l.counter
