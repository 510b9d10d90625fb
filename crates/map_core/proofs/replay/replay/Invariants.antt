use Rattle.std.proofs.Common.{◌≡◌, fold, take, None}
use Rattle.map_core.specs.Replay.{pool_step}
use Rattle.map_core.proofs.replay.replay.Given as goal

abbrev pub invariant-loop-command : goal.invariant-loop-command
invariant-loop-command l = l.found ≡ fold (pool_step l.name) None (take l.command-index l.commands)
