-- The text of a suggestion for all requests.
use Rattle.std.proofs.Common.{◌≡◌, ℕ, List, Bool, subst}
use Rattle.std.specs.Prelude.{Vec}
use Rattle.std.specs.declared.alloc.Global.{Global}
use Rattle.cap_grants.specs.declared.grant.AllowGrant.{AllowGrant}
use Rattle.suggest_core.specs.Outcome.{IsOutcome}
use Rattle.suggest_core.specs.declared.grain.Grain.{Grain}
use Rattle.suggest_core.specs.declared.seen.Seen.{Seen}
use Rattle.suggest_core.specs.declared.suggesting.Suggestion.{Suggestion}
use Rattle.suggest_core.specs.declared.suggesting.Suggestion.TheVariants.{Text}
use Rattle.log_text.specs.Suggested.{IsSuggestedText, grants_text}

pub suggested : (grain : Grain) (allow_all : Bool) (seen : List Seen) (suggestion : Suggestion) (grants : Vec (List ℕ × AllowGrant) Global) (text : List ℕ)
    → IsOutcome grain allow_all seen suggestion → suggestion ≡ Text grants → text ≡ grants_text grants.items → IsSuggestedText grain allow_all seen text
suggested grain allow_all seen suggestion grants text is same written =
    (grants, subst (λ (s : Suggestion). IsOutcome grain allow_all seen s) same is, written)
