use Rattle.std.proofs.Common.{◌≡◌, ◌≤◌, ◌++◌, length, drop, string_bytes}
use Rattle.script_text.specs.Inside.{digits_text}
use Rattle.script_text.proofs.counts.push_digits.Given as goal

abbrev pub invariant-loop-left : goal.invariant-loop-left
invariant-loop-left l = record {
  within : l.left ≤ length l.digits;
  is : string_bytes l.text ≡ string_bytes l.initial.text ++ digits_text (drop l.left l.digits);
}

abbrev pub decreases-loop-left : goal.decreases-loop-left
decreases-loop-left l = l.left
