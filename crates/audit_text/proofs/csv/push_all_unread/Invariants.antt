use Rattle.std.proofs.Common.{◌≡◌, ◌++◌, string_bytes, drop, codes}
use Rattle.std.specs.List.{flat_map}
use Rattle.audit_text.specs.Csv.{unread_line}
use Rattle.audit_text.proofs.csv.push_all_unread.Given as goal

-- what is written, and what the rest gives, is the whole
abbrev pub invariant-loop-entity : goal.invariant-loop-entity
invariant-loop-entity l =
    string_bytes l.text ++ flat_map (unread_line l.pools) (drop l.entity-index l.entities) ≡ string_bytes l.initial.text ++ flat_map (unread_line l.pools) l.entities
