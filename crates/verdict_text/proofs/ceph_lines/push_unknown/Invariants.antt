use Rattle.std.proofs.Common.{◌≡◌, ◌++◌, string_bytes, drop}
use Rattle.std.specs.List.{flat_map}
use Rattle.verdict_text.specs.CephExplained.{unknown_line}
use Rattle.verdict_text.proofs.ceph_lines.push_unknown.Given as goal

-- what is written, and what the rest gives, is the whole
abbrev pub invariant-loop-number : goal.invariant-loop-number
invariant-loop-number l =
    string_bytes l.text ++ flat_map unknown_line (drop l.number-index l.numbers) ≡ string_bytes l.initial.text ++ flat_map unknown_line l.numbers
