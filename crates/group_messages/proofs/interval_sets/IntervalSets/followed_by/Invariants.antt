use Rattle.std.proofs.Common.{◌≡◌, take}
use Rattle.group_messages.proofs.interval_sets.IntervalSets.followed_by.Given as goal

abbrev pub invariant-loop-earlier : goal.invariant-loop-earlier
invariant-loop-earlier l = l.sets.items ≡ take l.earlier-index l.earlier-items
