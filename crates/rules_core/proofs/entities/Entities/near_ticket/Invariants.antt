use Rattle.rules_core.proofs.NearSteps.{IsGathered}
use Rattle.rules_core.proofs.entities.Entities.near_ticket.Given as goal

abbrev pub invariant-loop-index : goal.invariant-loop-index
invariant-loop-index l = IsGathered l.self l.self-inside.places.items l.index-items l.self-inside.others.items l.places.items l.index-index
