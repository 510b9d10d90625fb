use Rattle.std.proofs.Common.{◌≡◌, ◌+◌, ◌++◌, drop, string_bytes}
use Rattle.lint_text.specs.Linted.{lines_from}
use Rattle.lint_text.proofs.lines.push_lines.Given as goal

-- what is written, and the lines of the rest, are the whole
abbrev pub invariant-loop-i : goal.invariant-loop-i
invariant-loop-i l =
    string_bytes l.text ++ lines_from l.before (l.i + 1) (drop l.i l.grants) (drop l.i l.standings) (drop l.i l.without)
    ≡ string_bytes l.initial.text ++ lines_from l.before 1 l.grants l.standings l.without
