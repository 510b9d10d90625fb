use Rattle.std.proofs.Common.{◌≡◌, take, map}
use Rattle.peer_core.specs.Steps.{blank}
use Rattle.group_model_whole.specs.ActingSets.{daemons}
use Rattle.group_core.proofs.effects.blank_copies.Given as goal

abbrev pub invariant-loop-number : goal.invariant-loop-number
invariant-loop-number l = l.copies.items ≡ map (blank l.min_size) (take l.number daemons)
