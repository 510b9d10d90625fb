-- Lists whose elements differ.
use Rattle.std.proofs.Common.{◌≢◌, ℕ, List, [], ◌∷◌, arith}
use Rattle.std.specs.List.{AllPairs}
use Rattle.std.proofs.lemmas.List.Elements.{All-cons, All-nil}
use Rattle.std.proofs.lemmas.List.Kept.{AllPairs-cons}
use Rattle.common_types.specs.declared.tags.AppTags.{AppTags}
use Rattle.map_core.specs.PossibleTags.{ArePossible}

pub none_differ : {X : Type 0} (R : X → X → Type 0) → AllPairs R []
none_differ R i j d low high = absurd (omega arith)

pub one_differs : {X : Type 0} (R : X → X → Type 0) (x : X) → AllPairs R (x ∷ [])
one_differs R x = AllPairs-cons R x [] (All-nil (R x)) (none_differ R)

-- a pool can be without applications, and can have one application whose keys differ
pub no_application : ArePossible []
no_application = (none_differ (λ (a b : AppTags). a.application ≢ b.application), All-nil (λ (app : AppTags). AllPairs (λ p q. p.0 ≢ q.0) app.pairs))

pub one_application : (app : AppTags) → AllPairs (λ p q. p.0 ≢ q.0) app.pairs → ArePossible (app ∷ [])
one_application app keys = (one_differs (λ (a b : AppTags). a.application ≢ b.application) app, All-cons (λ (a : AppTags). AllPairs (λ p q. p.0 ≢ q.0) a.pairs) app [] keys (All-nil (λ (a : AppTags). AllPairs (λ p q. p.0 ≢ q.0) a.pairs)))
