-- Statement: contracts of public calls use it.
-- How the program tells steps: a change that was not made stands for the object that was given.
use Rattle.std.specs.Prelude.{◌≡◌, ℕ, List, [], Option, Result, Ok, Err}
use Rattle.object_core.specs.Content.{Content}
use Rattle.object_core.specs.ToldEffects.{after}
use Rattle.object_core.specs.declared.outcome.Change.{Change}
use Rattle.object_core.specs.declared.outcome.Change.TheVariants as change
use Rattle.object_core.specs.declared.outcome.Outcome.{Outcome}
use Rattle.object_core.specs.declared.outcome.Outcome.TheVariants.{Done, Failed}
use Rattle.object_core.specs.Effect.{Effect}

abbrev pub told_step : Option Content → Result (List ℕ × Change) ℕ → Effect
told_step given (Ok step) = Ok (step.0, after given step.1)
told_step given (Err number) = Err number

-- a step that leaves what became of the object
abbrev pub kept_step : Change → Result (List ℕ) ℕ → Result (List ℕ × Change) ℕ
kept_step change (Ok output) = Ok (output, change)
kept_step change (Err number) = Err number

-- a step with the empty output
abbrev pub changed_step : Result Change ℕ → Result (List ℕ × Change) ℕ
changed_step (Ok change) = Ok ([], change)
changed_step (Err number) = Err number

-- a step that is done leaves what became of the object before it
abbrev pub StaysAs : Change → Result (List ℕ × Change) ℕ → Type 0
StaysAs change (Ok step) = step.1 ≡ change
StaysAs change (Err number) = Unit {0}

-- what is done keeps the object, and so does not copy it
abbrev pub KeepsObject : Outcome → Type 0
KeepsObject (Done outputs object) = object ≡ change.Kept
KeepsObject (Failed place number) = Unit {0}
