use Rattle.std.proofs.Common.{◌≡◌, ◌++◌, string_bytes, drop}
use Rattle.std.specs.List.{flat_map}
use Rattle.audit_text.specs.Json.{unread_piece}
use Rattle.verdict_text.specs.declared.entity.ReadEntity.{ReadEntity}
use Rattle.audit_text.proofs.json.unread_pieces.Given as goal

-- what is written, and what the rest gives, is the whole
abbrev pub invariant-loop-entity : goal.invariant-loop-entity
invariant-loop-entity l =
    string_bytes l.text ++ flat_map (λ (entity : ReadEntity). unread_piece entity entity.osd.read) (drop l.entity-index l.entities) ≡ string_bytes l.initial.text ++ flat_map (λ (entity : ReadEntity). unread_piece entity entity.osd.read) l.entities
