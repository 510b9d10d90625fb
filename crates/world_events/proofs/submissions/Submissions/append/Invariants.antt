use Rattle.std.proofs.Common.{◌≡◌, ◌++◌, take, drop}
use Rattle.world_events.specs.Submitting.{AreNew}
use Rattle.world_events.proofs.submissions.Submissions.append.Given as goal

abbrev pub invariant-loop-request : goal.invariant-loop-request
invariant-loop-request l = record {
  added : l.self ≡ l.initial.self ++ take l.request-index l.requests;
  fresh : AreNew l.self (drop l.request-index l.requests);
}
