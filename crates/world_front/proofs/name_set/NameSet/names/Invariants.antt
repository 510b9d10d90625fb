use Rattle.std.proofs.Common.{◌≡◌, ◌++◌, map, string_bytes}
use Rattle.world_front.proofs.name_set.NameSet.names.Given as goal

abbrev pub invariant-loop-text : goal.invariant-loop-text
invariant-loop-text l = l.names ++ map string_bytes l.text-iterator ≡ map string_bytes l.initial.text-iterator
