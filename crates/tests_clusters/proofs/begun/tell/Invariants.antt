use Rattle.cluster.specs.Monitors.{IsMonitorOf}
use Rattle.tests_clusters.proofs.begun.tell.Given as goal

abbrev pub invariant-loop-try : goal.invariant-loop-try
invariant-loop-try l = IsMonitorOf l.cluster l.monitor
