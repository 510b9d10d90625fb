use Rattle.std.proofs.Common.{◌≡◌, ◌++◌, drop, string_bytes}
use Rattle.audit_text.specs.Report.{unwritten_lines}
use Rattle.audit_text.proofs.report.unwritten_lines.Given as goal

-- what is written, and what the rest gives, is the whole
abbrev pub invariant-loop-number : goal.invariant-loop-number
invariant-loop-number l = string_bytes l.text ++ unwritten_lines l.all l.number (drop l.number l.pools) ≡ string_bytes l.initial.text ++ unwritten_lines l.all 0 l.pools
