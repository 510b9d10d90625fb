use Rattle.std.proofs.Common.{◌≡◌, length}
use Rattle.name_patterns.specs.Patterns.{fits}
use Rattle.name_patterns.proofs.patterns.matches.Given as goal

-- what is left fits exactly if the whole does
abbrev pub invariant-loop-first : goal.invariant-loop-first
invariant-loop-first l = fits l.rest l.text ≡ fits l.initial.rest l.initial.text

abbrev pub decreases-loop-first : goal.decreases-loop-first
decreases-loop-first l = length l.rest
