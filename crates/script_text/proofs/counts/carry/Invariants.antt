use Rattle.std.proofs.Common.{◌≡◌, ◌++◌, take, drop}
use Rattle.script_text.specs.Inside.{one_more}
use Rattle.script_text.proofs.counts.carry.Given as goal

abbrev pub invariant-loop-digit : goal.invariant-loop-digit
invariant-loop-digit l = one_more l.initial.digits ≡ take l.digit-index l.digits ++ one_more (drop l.digit-index l.digits)
