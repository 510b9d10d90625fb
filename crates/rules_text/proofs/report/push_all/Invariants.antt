use Rattle.std.proofs.Common.{◌≡◌, ◌++◌, string_bytes, drop}
use Rattle.std.specs.List.{flat_map}
use Rattle.rules_text.specs.Report.{checked_lines}
use Rattle.rules_text.proofs.report.push_all.Given as goal

-- what is written, and what the rest gives, is the whole
abbrev pub invariant-loop-one : goal.invariant-loop-one
invariant-loop-one l =
    string_bytes l.text ++ flat_map (checked_lines l.entities l.quiet) (drop l.one-index l.all) ≡ string_bytes l.initial.text ++ flat_map (checked_lines l.entities l.quiet) l.all
