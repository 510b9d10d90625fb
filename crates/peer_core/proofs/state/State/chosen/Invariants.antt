use Rattle.std.proofs.Common.{◌≡◌, drop}
use Rattle.peer_core.specs.Choice.{best, own_offer}
use Rattle.peer_core.proofs.state.State.chosen.Given as goal

abbrev pub invariant-loop-offer : goal.invariant-loop-offer
invariant-loop-offer l = best (record { number = l.number; base = l.base; start = l.start; part = l.part }) (drop l.offer-index l.informed) ≡ best (own_offer l.self) l.informed
