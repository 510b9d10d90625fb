use Rattle.std.proofs.Common.{◌≡◌, ◌++◌, string_bytes}
use Rattle.who_text.specs.Table.{numbers_to}
use Rattle.who_text.proofs.table.push_numbers.Given as goal

-- the numbers so far are written
abbrev pub invariant-loop-before : goal.invariant-loop-before
invariant-loop-before l = string_bytes l.text ≡ string_bytes l.initial.text ++ numbers_to l.before
