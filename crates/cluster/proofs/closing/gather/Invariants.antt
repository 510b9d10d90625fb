use Rattle.std.proofs.Common.{map}
use Rattle.cluster.specs.Passes.{AreSeatsOf, Gathers}
use Rattle.cluster.specs.Asks.{seats_of}
use Rattle.cluster.proofs.closing.gather.Given as goal

abbrev pub invariant-loop-pass : goal.invariant-loop-pass
invariant-loop-pass l = record {
  seats : AreSeatsOf l.cluster l.all;
  heard : Gathers l.initial.all (map seats_of l.yielded) l.all;
}
