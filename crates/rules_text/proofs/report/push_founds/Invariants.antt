use Rattle.std.proofs.Common.{◌≡◌, ◌++◌, string_bytes, drop}
use Rattle.std.specs.List.{flat_map}
use Rattle.rules_core.specs.declared.checking.Found.{Found}
use Rattle.rules_text.specs.Report.{finding_lines}
use Rattle.rules_text.proofs.report.push_founds.Given as goal

-- what is written, and what the rest gives, is the whole
abbrev pub invariant-loop-found : goal.invariant-loop-found
invariant-loop-found l =
    string_bytes l.text ++ flat_map (λ (found : Found). finding_lines l.entities l.rule found.place found.finding) (drop l.found-index l.founds) ≡ string_bytes l.initial.text ++ flat_map (λ (found : Found). finding_lines l.entities l.rule found.place found.finding) l.founds
