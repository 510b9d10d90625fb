use Rattle.std.proofs.Common.{◌≡◌, Some, length}
use Rattle.world_script.specs.Command.{texts_onto, no_texts}
use Rattle.world_script.proofs.texts.texts.Given as goal

-- what all words say is what those that are left add to what was read
abbrev pub invariant-loop-alloc : goal.invariant-loop-alloc
invariant-loop-alloc l = texts_onto (Some no_texts) l.initial.words ≡ texts_onto (Some l.caps) l.words

abbrev pub decreases-loop-alloc : goal.decreases-loop-alloc
decreases-loop-alloc l = length l.words
