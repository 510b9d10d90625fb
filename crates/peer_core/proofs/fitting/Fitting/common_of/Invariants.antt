use Rattle.std.proofs.Common.{◌≡◌, drop}
use Rattle.group_messages.specs.Beginnings.{common_of}
use Rattle.peer_core.specs.Fittings.{becomes}
use Rattle.peer_core.proofs.fitting.Fitting.common_of.Given as goal

abbrev pub invariant-loop-offer : goal.invariant-loop-offer
invariant-loop-offer l = common_of (drop l.offer-index l.informed) l.self.log.now (becomes l.self) l.member ≡ common_of l.informed l.self.log.now (becomes l.self) l.member
