use Rattle.cluster.specs.Monitors.{IsMonitorOf, FollowsStart}
use Rattle.workload.proofs.moving.move_until.Given as goal

abbrev pub invariant-loop-time : goal.invariant-loop-time
invariant-loop-time g l = IsMonitorOf l.cluster l.monitor × FollowsStart l.cluster l.monitor
