use Rattle.std.proofs.Common.{◌≡◌, take, drop}
use Rattle.world_core.specs.Parts.{requests_of}
use Rattle.world_events.specs.Submitting.{AreNew}
use Rattle.world_core.proofs.world.parts.submissions_of.Given as goal

abbrev pub invariant-loop-place : goal.invariant-loop-place
invariant-loop-place l = record {
  added : l.all ≡ requests_of (take l.place l.groups);
  fresh : AreNew l.all (requests_of (drop l.place l.groups));
}
