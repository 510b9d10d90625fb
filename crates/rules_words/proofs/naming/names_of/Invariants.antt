use Rattle.std.proofs.Common.{◌≡◌, ◌≤◌, ◌++◌, length, drop}
use Rattle.std.specs.List.{flat_map}
use Rattle.rules_words.specs.Naming.{named}
use Rattle.rules_words.specs.declared.words.Word.{Word}
use Rattle.rules_words.proofs.naming.names_of.Given as goal

-- the names so far, and those of the other words, are all; they are not too many
abbrev pub invariant-loop-word : goal.invariant-loop-word
invariant-loop-word l = record {
  whole :
      l.names.items ++ flat_map (λ (word : Word). named l.groups word.text.now) (drop l.word-index l.words)
      ≡ flat_map (λ (word : Word). named l.groups word.text.now) l.words;
  few : length l.names.items ≤ 4096;
}
