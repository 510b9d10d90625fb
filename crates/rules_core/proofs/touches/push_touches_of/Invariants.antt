use Rattle.std.proofs.Common.{◌≡◌, ◌++◌, drop}
use Rattle.rules_core.specs.Touches.{touches_of}
use Rattle.rules_core.proofs.touches.push_touches_of.Given as goal

-- what is there, and what the rest gives, is the whole
abbrev pub invariant-loop-entry : goal.invariant-loop-entry
invariant-loop-entry l = l.touches.items ++ touches_of (drop l.entry-index l.grants) ≡ l.initial.touches.items ++ touches_of l.grants
