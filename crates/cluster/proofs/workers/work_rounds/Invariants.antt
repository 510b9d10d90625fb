use Rattle.cluster.specs.Asks.{IsPassOf}
use Rattle.cluster.specs.Workers.{HasDone, HasWorked}
use Rattle.cluster.proofs.workers.work_rounds.Given as goal

abbrev pub invariant-loop-round : goal.invariant-loop-round
invariant-loop-round g l = record {
  pass : IsPassOf l.cluster l.pass;
  worked : HasWorked l.round l.initial.pass l.pass;
  on : HasDone l.cluster l.round l.initial.pass l.pass;
}
