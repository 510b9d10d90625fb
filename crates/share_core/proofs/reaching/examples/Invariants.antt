use Rattle.std.proofs.Common.{◌≡◌, ◌++◌, drop}
use Rattle.std.specs.List.{filter_map}
use Rattle.share_core.specs.Meeting.{example_of}
use Rattle.share_core.specs.Sharing.{pairs}
use Rattle.share_core.proofs.reaching.examples.Given as goal

-- what is there, and what the rest gives, is the whole
abbrev pub invariant-loop-mine : goal.invariant-loop-mine
invariant-loop-mine l = l.examples.items ++ filter_map (example_of l.one l.other) (pairs (drop l.mine-index l.ones) l.others) ≡ filter_map (example_of l.one l.other) (pairs l.ones l.others)
