use Rattle.std.proofs.Common.{◌≡◌, ◌+◌, ◌++◌, drop, string_bytes}
use Rattle.lint_text.specs.CephLinted.{all_lines}
use Rattle.lint_text.proofs.ceph.push_all.Given as goal

-- what is written, and the lines of the rest, are the whole
abbrev pub invariant-loop-i : goal.invariant-loop-i
invariant-loop-i l = string_bytes l.text ++ all_lines l.before (l.i + 1) (drop l.i l.all) ≡ string_bytes l.initial.text ++ all_lines l.before 1 l.all
