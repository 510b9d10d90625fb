use Rattle.std.proofs.Common.{◌≡◌, ◌++◌, take, drop}
use Rattle.script_text.specs.Inside.{first_line, after_line}
use Rattle.script_text.proofs.lines.cut_line.Given as goal

abbrev pub invariant-loop-i : goal.invariant-loop-i
invariant-loop-i l = record {
  line : first_line l.text ≡ take l.i l.text ++ first_line (drop l.i l.text);
  rest : after_line l.text ≡ after_line (drop l.i l.text);
}
