use Rattle.std.proofs.Common.{◌≡◌, ◌++◌, map}
use Rattle.std.specs.List.{range_with_len}
use Rattle.world_script.specs.Script.{place}
use Rattle.world_script.proofs.groups.push_groups.Given as goal

abbrev pub invariant-loop-number : goal.invariant-loop-number
invariant-loop-number l = l.groups.items ≡ l.initial.groups.items ++ map (place l.pool.name) (range_with_len 0 l.number)
