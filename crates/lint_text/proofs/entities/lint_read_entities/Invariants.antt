use Rattle.std.proofs.Common.{option_copied, string_bytes, take}
use Rattle.lint_text.specs.ReadLinted.{AreReadLinted}
use Rattle.lint_text.proofs.entities.lint_read_entities.Given as goal

-- what is printed of the entities so far
abbrev pub invariant-loop-entity : goal.invariant-loop-entity
invariant-loop-entity l = AreReadLinted (option_copied l.pools) l.check (take l.entity-index l.entities) (string_bytes l.text) l.fails
