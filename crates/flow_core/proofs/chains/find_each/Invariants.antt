use Rattle.std.proofs.Common.{drop}
use Rattle.flow_core.specs.Searching.{Entries, FindsEach}
use Rattle.flow_core.proofs.chains.find_each.Given as goal

-- what the rest finds from here is found by all
abbrev pub invariant-loop-place : goal.invariant-loop-place
invariant-loop-place l =
    (found : Entries) → FindsEach l.places l.chain (drop l.place-index l.next) l.found.entries found → FindsEach l.places l.chain l.next l.initial.found.entries found
