use Rattle.std.proofs.Common.{◌≡◌, drop}
use Rattle.who_text.specs.Table as spec
use Rattle.who_text.proofs.columns.name_width.Given as goal

-- with what the rest has, it is the whole
abbrev pub invariant-loop-entity : goal.invariant-loop-entity
invariant-loop-entity l = spec.widest l.widest (drop l.entity-index l.entities) ≡ spec.name_width l.entities
