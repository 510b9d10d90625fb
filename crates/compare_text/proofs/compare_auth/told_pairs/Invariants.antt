use Rattle.std.proofs.Common.{string_bytes, take}
use Rattle.compare_text.specs.Pairs.{IsReadPairTold}
use Rattle.verdict_text.specs.EachTold.{AreAllTold}
use Rattle.compare_text.proofs.compare_auth.told_pairs.Given as goal

-- what is printed of the pairs so far
abbrev pub invariant-loop-pair : goal.invariant-loop-pair
invariant-loop-pair l = AreAllTold (IsReadPairTold l.how) (take l.pair-index l.pairs) (string_bytes l.printed.text) l.printed.fails
