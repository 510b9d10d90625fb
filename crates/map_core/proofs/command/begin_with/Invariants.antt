use Rattle.std.proofs.Common.{◌≡◌, take}
use Rattle.map_core.proofs.command.begin_with.Given as goal

abbrev pub invariant-loop-place : goal.invariant-loop-place
invariant-loop-place l = take l.place l.commands ≡ take l.place l.front
