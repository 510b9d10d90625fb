use Rattle.map_core.specs.Map.{map_of}
use Rattle.cluster.specs.Passes.{AreMonitorOf}
use Rattle.cluster.specs.MapCommands.{move_in}
use Rattle.cluster.specs.GroupMoves.{HaveMoved, event_at}
use Rattle.cluster.proofs.group_moves.move_groups.Given as goal

abbrev pub invariant-loop-k : goal.invariant-loop-k
invariant-loop-k g l = record {
  own : AreMonitorOf l.cluster l.seats;
  moved : HaveMoved (event_at (move_in (map_of l.map) l.command) l.places) l.from l.k l.initial.seats l.seats;
}
