use Rattle.std.proofs.Common.{◌≡◌, ◌++◌, string_bytes, drop, codes}
use Rattle.std.specs.List.{flat_map}
use Rattle.audit_text.specs.Report.{everywhere_line}
use Rattle.audit_text.proofs.report.everywhere_lines.Given as goal

-- what is written, and what the rest gives, is the whole
abbrev pub invariant-loop-one : goal.invariant-loop-one
invariant-loop-one l =
    string_bytes l.text ++ flat_map (everywhere_line l.all) (drop l.one-index l.all) ≡ string_bytes l.initial.text ++ flat_map (everywhere_line l.all) l.all
