use Rattle.std.proofs.Common.{◌∷◌, [], take, All}
use Rattle.rights_core.specs.Rights.{grants_at}
use Rattle.compare_core.specs.Widening.{WidensBy}
use Rattle.compare_text.proofs.widening.example_from.Given as goal

-- the grant by itself widens nothing at the addresses so far
abbrev pub invariant-loop-address : goal.invariant-loop-address
invariant-loop-address l = All (λ a. ¬ WidensBy l.registry (grants_at l.old.grants a) (grants_at (l.entry ∷ []) a)) (take l.address-index l.samples)
