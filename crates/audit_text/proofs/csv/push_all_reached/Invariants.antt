use Rattle.std.proofs.Common.{◌≡◌, ◌++◌, string_bytes, drop, codes}
use Rattle.std.specs.List.{flat_map}
use Rattle.audit_text.specs.Csv.{reached_line}
use Rattle.audit_text.proofs.csv.push_all_reached.Given as goal

-- what is written, and what the rest gives, is the whole
abbrev pub invariant-loop-reached : goal.invariant-loop-reached
invariant-loop-reached l =
    string_bytes l.text ++ flat_map reached_line (drop l.reached-index l.all) ≡ string_bytes l.initial.text ++ flat_map reached_line l.all
