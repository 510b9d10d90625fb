use Rattle.std.proofs.Common.{◌≡◌, true, option_copied}
use Rattle.rules_core.specs.Demands.{AreApart}
use Rattle.rules_core.specs.Rules.{Has, IsRead, is_selected}
use Rattle.rules_core.proofs.NearSteps.{HoldsSoFar}
use Rattle.rules_core.proofs.checking.crossed.Given as goal

abbrev pub invariant-loop-place : goal.invariant-loop-place
invariant-loop-place l =
    HoldsSoFar (λ other. is_selected l.others other.name ≡ true → IsRead other → Has (AreApart (option_copied l.pools) l.rights.grants) other) l.entities l.place-items l.place-index
