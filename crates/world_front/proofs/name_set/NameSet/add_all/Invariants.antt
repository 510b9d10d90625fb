use Rattle.std.proofs.Common.{◌≡◌, take}
use Rattle.world_front.specs.Joining.{with_names}
use Rattle.world_front.proofs.name_set.NameSet.add_all.Given as goal

abbrev pub invariant-loop-name : goal.invariant-loop-name
invariant-loop-name l = l.self ≡ with_names l.initial.self (take l.name-index l.names)
