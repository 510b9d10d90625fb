use Rattle.std.proofs.Common.{◌≡◌, take, false}
use Rattle.std.specs.List.{list_any}
use Rattle.world_core.specs.Taking.{is_full_at}
use Rattle.world_core.proofs.taking.is_one_full.Given as goal

abbrev pub invariant-loop-place : goal.invariant-loop-place
invariant-loop-place l = list_any (is_full_at l.groups) (take l.place-index l.places) ≡ false
