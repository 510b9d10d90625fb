use Rattle.cluster.specs.Asks.{IsPassOf}
use Rattle.cluster.specs.Workers.{HasDelivered}
use Rattle.cluster.proofs.Rounds.{HasCome}
use Rattle.cluster.proofs.workers.work_round.Given as goal

abbrev pub invariant-loop-place : goal.invariant-loop-place
invariant-loop-place g l = record {
  pass : IsPassOf l.cluster l.pass;
  come : HasCome l.place l.initial.pass l.pass;
  on : HasDelivered l.cluster l.place l.initial.pass l.pass;
}
