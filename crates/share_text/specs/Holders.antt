-- Statement: contracts of public calls use it.
-- What is known of who has rights: a name, and the rights or the fault that prevents them.
use Rattle.std.specs.Prelude.{ℕ, List, string_bytes}
use Rattle.verdict_text.specs.Reading.{Reading}
use Rattle.verdict_text.specs.declared.entity.ReadEntity.{ReadEntity}
use Rattle.share_text.specs.declared.holder.Holder.{Holder}

abbrev pub known_of : Holder → List ℕ × Reading
known_of holder = (holder.name.now, holder.read.now)

-- an entity has the rights of its text
abbrev pub of_entity : ReadEntity → List ℕ × Reading
of_entity entity = (string_bytes entity.name, entity.osd.read)
