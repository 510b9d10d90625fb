-- Statement: contracts of public calls use it.
-- What is suggested, or why nothing is (this project's profile).
use Rattle.std.specs.Prelude.{◌≡◌, List, Bool, Some, None}
use Rattle.std.specs.List.{position}
use Rattle.suggest_core.specs.declared.grain.Grain.{Grain}
use Rattle.suggest_core.specs.declared.seen.Seen.{Seen}
use Rattle.suggest_core.specs.declared.suggesting.Suggestion.{Suggestion}
use Rattle.suggest_core.specs.declared.suggesting.Suggestion.TheVariants.{Text, LeftOut}
use Rattle.suggest_core.specs.Suggestion.{IsSuggested, is_left_out}

-- a suggestion for all requests, or the index of the first one for which nothing is suggested
abbrev pub IsOutcome : Grain → Bool → List Seen → Suggestion → Type 0
IsOutcome grain allow_all seen (Text text) = (position (is_left_out allow_all) seen ≡ None) × IsSuggested grain seen text.items
IsOutcome grain allow_all seen (LeftOut index) = position (is_left_out allow_all) seen ≡ Some index
