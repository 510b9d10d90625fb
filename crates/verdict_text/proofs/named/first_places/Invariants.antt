use Rattle.std.proofs.Common.{take}
use Rattle.verdict_text.specs.FirstPlaces.{AreFirstPlaces}
use Rattle.verdict_text.proofs.named.first_places.Given as goal

-- the places of the names so far
abbrev pub invariant-loop-place : goal.invariant-loop-place
invariant-loop-place l = AreFirstPlaces l.places.entries (take l.place l.entities)
