use Rattle.std.proofs.Common.{◌≡◌, ◌++◌, string_bytes, drop}
use Rattle.std.specs.List.{flat_map}
use Rattle.verdict_text.specs.CephExplained.{entry_line}
use Rattle.verdict_text.proofs.ceph_lines.push_entries.Given as goal

-- what is written, and what the rest gives, is the whole
abbrev pub invariant-loop-entry : goal.invariant-loop-entry
invariant-loop-entry l =
    string_bytes l.text ++ flat_map entry_line (drop l.entry-index l.entries) ≡ string_bytes l.initial.text ++ flat_map entry_line l.entries
