use Rattle.std.proofs.Common.{◌≡◌, drop, map}
use Rattle.group_model_whole.specs.Choice.{best}
use Rattle.group_wire.specs.Furthest.{whole_offer}
use Rattle.group_wire.proofs.furthest.furthest.Given as goal

abbrev pub invariant-loop-copy : goal.invariant-loop-copy
invariant-loop-copy l = best (whole_offer l.best) (map whole_offer (drop l.copy-index l.rest)) ≡ best (whole_offer l.initial.best) (map whole_offer l.rest)
