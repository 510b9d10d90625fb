use Rattle.std.proofs.Common.{take}
use Rattle.compare_text.specs.Pairs.{AreFoundOf, IsNewPair}
use Rattle.compare_text.proofs.pairs.new_pairs.Given as goal

-- the pairs of the entities so far
abbrev pub invariant-loop-entity : goal.invariant-loop-entity
invariant-loop-entity l = AreFoundOf (IsNewPair l.reader l.old) (take l.entity-index l.new) l.pairs.items
