use Rattle.std.proofs.Common.{◌≡◌, ◌++◌, string_bytes, drop}
use Rattle.std.specs.List.{flat_map}
use Rattle.who_text.specs.Who.{indented_line}
use Rattle.who_text.proofs.who.push_report.Given as goal

-- what is written, and what the rest gives, is the whole
abbrev pub invariant-loop-line : goal.invariant-loop-line
invariant-loop-line l =
    string_bytes l.text ++ flat_map indented_line (drop l.line-index l.lines) ≡ string_bytes l.initial.text ++ flat_map indented_line l.lines
