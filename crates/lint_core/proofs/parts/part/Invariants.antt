use Rattle.std.proofs.Common.{◌≡◌, ◌≤◌, length, take, filter}
use Rattle.lint_core.specs.RightsLint.{is_part}
use Rattle.lint_core.proofs.parts.part.Given as goal

-- the part of the grants so far
abbrev pub invariant-loop-entry : goal.invariant-loop-entry
invariant-loop-entry l = record {
  kept : l.part.items ≡ filter (is_part l.own l.number) (take l.entry-index l.grants);
  few : length l.part.items ≤ l.entry-index;
}
