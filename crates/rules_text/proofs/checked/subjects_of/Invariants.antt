use Rattle.std.proofs.Common.{◌≡◌, map, take}
use Rattle.rules_text.specs.Checked.{subject_of}
use Rattle.rules_text.proofs.checked.subjects_of.Given as goal

-- the entities so far
abbrev pub invariant-loop-entity : goal.invariant-loop-entity
invariant-loop-entity l = l.subjects.items ≡ map subject_of (take l.entity-index l.entities)
