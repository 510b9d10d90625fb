use Rattle.std.proofs.Common.{◌≡◌, ◌++◌, drop, map}
use Rattle.std.specs.List.{filter_map}
use Rattle.share_core.specs.Meeting.{example_of}
use Rattle.share_core.proofs.reaching.push_shared.Given as goal

-- what is there, and what the rest gives, is the whole
abbrev pub invariant-loop-theirs : goal.invariant-loop-theirs
invariant-loop-theirs l =
    l.examples.items ++ filter_map (example_of l.one l.other) (map (λ theirs. (l.mine, theirs)) (drop l.theirs-index l.others))
    ≡ l.initial.examples.items ++ filter_map (example_of l.one l.other) (map (λ theirs. (l.mine, theirs)) l.others)
