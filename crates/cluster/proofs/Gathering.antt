-- Seats take in those of some passes, one after another.
use Rattle.std.proofs.Common.{List, [], ◌∷◌, ◌++◌, refl, subst}
use Rattle.cluster.specs.declared.cluster.Seats.{Seats}
use Rattle.cluster.specs.Passes.{TakeIn, Gathers}

pub gathers_more : (s : Seats) (ps : List Seats) (t p u : Seats) → Gathers s ps t → TakeIn t p u → Gathers s (ps ++ p ∷ []) u
gathers_more s [] t p u h took = (u, subst (λ x. TakeIn x p u) h took, refl)
gathers_more s (q ∷ qs) t p u h took = (h.0, h.1, gathers_more h.0 qs t p u h.2 took)
