use Rattle.std.proofs.Common.{◌≡◌, drop}
use Rattle.group_messages.specs.Beginnings.{count_at}
use Rattle.group_messages.proofs.beginnings.count_at.Given as goal

abbrev pub invariant-loop-kept : goal.invariant-loop-kept
invariant-loop-kept l = count_at (drop l.kept-index l.common) l.member ≡ count_at l.common l.member
