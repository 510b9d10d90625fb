use Rattle.std.proofs.Common.{◌≡◌, ◌+◌, ◌*◌, ◌++◌, drop, map}
use Rattle.grant_core.specs.Flat.{filled, numbered}
use Rattle.grant_core.specs.Found.{parts_before}
use Rattle.grant_core.specs.Tree.{below}
use Rattle.grant_core.proofs.expansion.+grow.Given as goal

-- the expansion so far, followed by the expansion of the remaining grants, is the whole expansion
abbrev pub invariant-grow-loop-i : goal.invariant-grow-loop-i
invariant-grow-loop-i l = record {
  above : l.above.items ≡ l.fn.above.items;
  grants : l.grants.items ++ map (below l.fn.above.items) (numbered (parts_before l.profiles.entries l.before) (1 + l.i) (map (filled l.used) (drop l.i l.body)))
      ≡ l.fn.grants.items ++ map (below l.fn.above.items) (numbered (parts_before l.profiles.entries l.before) 1 (map (filled l.used) l.body));
}

-- a use is expanded with the profiles before it alone
abbrev pub decreases-grow : goal.decreases-grow
decreases-grow l = 3 * l.before + 2

abbrev pub decreases-grow_one : goal.decreases-grow_one
decreases-grow_one l = 3 * l.before + 1

abbrev pub decreases-grow_use : goal.decreases-grow_use
decreases-grow_use l = 3 * l.before
