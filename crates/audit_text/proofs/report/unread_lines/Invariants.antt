use Rattle.std.proofs.Common.{◌≡◌, ◌++◌, string_bytes, drop, codes}
use Rattle.std.specs.List.{flat_map}
use Rattle.audit_text.specs.Report.{unread_line}
use Rattle.verdict_text.specs.declared.entity.ReadEntity.{ReadEntity}
use Rattle.audit_text.proofs.report.unread_lines.Given as goal

-- what is written, and what the rest gives, is the whole
abbrev pub invariant-loop-entity : goal.invariant-loop-entity
invariant-loop-entity l =
    string_bytes l.text ++ flat_map (λ (entity : ReadEntity). unread_line entity entity.osd.read) (drop l.entity-index l.entities) ≡ string_bytes l.initial.text ++ flat_map (λ (entity : ReadEntity). unread_line entity entity.osd.read) l.entities
