use Rattle.std.proofs.Common.{◌≡◌, ◌++◌, string_bytes, drop}
use Rattle.std.specs.List.{flat_map}
use Rattle.verdict_text.specs.Reasons.{denied_line}
use Rattle.verdict_text.proofs.reasons.push_denied_lines.Given as goal

-- what is written, and what the rest gives, is the whole
abbrev pub invariant-loop-reason : goal.invariant-loop-reason
invariant-loop-reason l =
    string_bytes l.text ++ flat_map (denied_line l.rules) (drop l.reason-index l.reasons) ≡ string_bytes l.initial.text ++ flat_map (denied_line l.rules) l.reasons
