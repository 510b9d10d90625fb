use Rattle.std.proofs.Common.{◌≡◌, ◌++◌, drop, filter, string_bytes}
use Rattle.std.specs.List.{flat_map}
use Rattle.audit_text.specs.Reached.{is_alike}
use Rattle.audit_text.specs.Report.{member_name}
use Rattle.audit_text.proofs.report.push_names.Given as goal

-- what is written, and what the rest gives, is the whole
abbrev pub invariant-loop-other : goal.invariant-loop-other
invariant-loop-other l =
    string_bytes l.text ++ flat_map member_name (filter (is_alike l.one) (drop l.other-index l.all))
    ≡ string_bytes l.initial.text ++ flat_map member_name (filter (is_alike l.one) l.all)
