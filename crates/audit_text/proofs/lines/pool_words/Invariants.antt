use Rattle.std.proofs.Common.{◌≡◌, map, take}
use Rattle.audit_text.specs.Matrix.{pool_word}
use Rattle.audit_text.proofs.lines.pool_words.Given as goal

-- what the first ones give
abbrev pub invariant-loop-pool : goal.invariant-loop-pool
invariant-loop-pool l = l.words ≡ map pool_word (take l.pool-index l.pools)
