-- Statement: contracts of public calls use it.
-- Which of some entities has a name.
use Rattle.std.specs.Prelude.{ℕ, List, Option, string_bytes}
use Rattle.std.specs.List.{find}
use Rattle.std.specs.Str.{bytes_eq}
use Rattle.verdict_text.specs.declared.entity.Entity.{Entity}

-- the entity of this name, the first where there are more
abbrev pub entity_in : List Entity → List ℕ → Option Entity
entity_in entities name = find (λ entity. bytes_eq (string_bytes entity.name) name) entities
