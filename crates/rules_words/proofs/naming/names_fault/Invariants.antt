use Rattle.std.proofs.Common.{◌≡◌, drop}
use Rattle.rules_words.specs.Naming as spec
use Rattle.rules_words.proofs.naming.names_fault.Given as goal

-- the words so far have no fault
abbrev pub invariant-loop-word : goal.invariant-loop-word
invariant-loop-word l = spec.names_fault l.words ≡ spec.names_fault (drop l.word-index l.words)
