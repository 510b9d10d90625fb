use Rattle.std.proofs.Common.{◌-◌, map}
use Rattle.flow_core.proofs.Searches.{IsSearchedWith}
use Rattle.flow_core.proofs.chains.chains_from.Given as goal

abbrev pub invariant-loop-next : goal.invariant-loop-next
invariant-loop-next l = IsSearchedWith (map (λ row. row.items) l.steps) l.start l.found.entries l.next

-- each round counts up, to fewer places than there are numbers
abbrev pub decreases-loop-next : goal.decreases-loop-next
decreases-loop-next l = 9223372036854775808 - l.next
