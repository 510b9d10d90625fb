use Rattle.std.proofs.Common.{◌≡◌, ◌++◌, drop, map}
use Rattle.share_text.specs.Holders.{known_of, of_entity}
use Rattle.share_text.proofs.holder.holders_of.Given as goal

-- those so far, and those of the rest, are all
abbrev pub invariant-loop-entity : goal.invariant-loop-entity
invariant-loop-entity l = map known_of l.holders.items ++ map of_entity (drop l.entity-index l.entities) ≡ map of_entity l.entities
