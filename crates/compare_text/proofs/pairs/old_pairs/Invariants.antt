use Rattle.std.proofs.Common.{take}
use Rattle.compare_text.specs.Pairs.{AreFoundOf, IsOldPair}
use Rattle.compare_text.proofs.pairs.old_pairs.Given as goal

-- the pairs of the entities so far
abbrev pub invariant-loop-entity : goal.invariant-loop-entity
invariant-loop-entity l = AreFoundOf (IsOldPair l.reader l.new) (take l.entity-index l.old) l.pairs.items
