use Rattle.std.proofs.Common.{length}
use Rattle.world_script.proofs.ScriptWords.{IsReadTo}
use Rattle.world_script.proofs.operations.ops.Given as goal

abbrev pub invariant-loop-alloc : goal.invariant-loop-alloc
invariant-loop-alloc l = IsReadTo l.initial.words l.words l.ops.items

abbrev pub decreases-loop-alloc : goal.decreases-loop-alloc
decreases-loop-alloc l = length l.words
